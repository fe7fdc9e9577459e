use Rattle.lpis_register_rows.proofs.SpanListLemmas.{has-at, span-rows-next}
use Rattle.lpis_register_rows.proofs.spans.span_rows.Goals as goal

pub span_row-requires : goal.span_row-requires
span_row-requires c = c.requires c.id-item.result (has-at c.args.ids.now c.loop-id.id-index c.id-item.result c.loop-id-test.true c.id-item.is)

pub loop-id-preserved : goal.loop-id-preserved
loop-id-preserved c = span-rows-next c.args.history.now c.args.ids.now c.loop-id.id-index c.id-item.result
    c.loop-id.rows.items c.push.new.self.items c.in_ok-row.row c.loop-id-test.true c.id-item.is c.in_ok-row.ensures.id
    c.in_ok-row.ensures.right c.in_ok-push.ensures.items c.loop-id.invariant
