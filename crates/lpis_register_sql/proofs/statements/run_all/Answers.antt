use Rattle.std.proofs.Common.{arith, length, refl, ◌<◌}
use Rattle.lpis_register_sql.specs.Making.{plain_statement}
use Rattle.lpis_register_sql.proofs.MakingLemmas.{item_fails, makes_all, makes_item}
use Rattle.lpis_register_sql.proofs.statements.run_all.Goals as goal

pub loop-text-preserved : goal.loop-text-preserved
loop-text-preserved g c =
    let low : c.loop-text.text-index < length c.args.texts.now = omega arith in
    record {
      same_reference = cc;
      makes = makes_item (λ t. plain_statement t.now) c.args.texts.now c.loop-text.text-index _ _ low refl c.loop-text.invariant.makes c.in_ok-run.ensures.makes;
    }

pub returns-clause-makes : goal.returns-clause-makes
returns-clause-makes g c = makes_all (λ t. plain_statement t.now) c.args.texts.now c.loop-text.text-index (omega arith) c.loop-text.invariant.makes

pub returns-in_err-run-clause-makes : goal.returns-in_err-run-clause-makes
returns-in_err-run-clause-makes g c =
    let low : c.loop-text.text-index < length c.args.texts.now = omega arith in
    item_fails (λ t. plain_statement t.now) c.args.texts.now c.loop-text.text-index _ _ low refl c.from_residual.ensures.1 c.loop-text.invariant.makes
    c.in_err-run.ensures.makes
