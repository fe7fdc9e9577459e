use Rattle.std.proofs.Common.{arith, length, ◌<◌}
use Rattle.lpis_register_sql.specs.Making.{whole_span_statement}
use Rattle.lpis_register_sql.proofs.MakingLemmas.{item_fails, makes_all, makes_item}
use Rattle.lpis_register_sql.proofs.moving.insert_whole_spans.Goals as goal

pub loop-span-preserved : goal.loop-span-preserved
loop-span-preserved g c =
    let low : c.loop-span.span-index < length c.args.spans.now = omega arith in
    record {
      same_reference = cc;
      makes = makes_item whole_span_statement c.args.spans.now c.loop-span.span-index c.span-item.result _ low c.span-item.is c.loop-span.invariant.makes c.in_ok-insert_whole_span.ensures.makes;
    }

pub returns-clause-makes : goal.returns-clause-makes
returns-clause-makes g c = makes_all whole_span_statement c.args.spans.now c.loop-span.span-index (omega arith) c.loop-span.invariant.makes

pub returns-in_err-insert_whole_span-clause-makes : goal.returns-in_err-insert_whole_span-clause-makes
returns-in_err-insert_whole_span-clause-makes g c =
    let low : c.loop-span.span-index < length c.args.spans.now = omega arith in
    item_fails whole_span_statement c.args.spans.now c.loop-span.span-index c.span-item.result _ low c.span-item.is c.from_residual.ensures.1 c.loop-span.invariant.makes
    c.in_err-insert_whole_span.ensures.makes
