use Rattle.lpis_register_rows.proofs.LiveRowLemmas.{lives-more}
use Rattle.lpis_register_rows.proofs.live.read_live.Goals as goal

pub loop-row-preserved : goal.loop-row-preserved
loop-row-preserved c = lives-more c.args.rows.now c.loop-row.row-index c.row-item.result c.loop-row.spans.items
    c.push.new.self.items c.in_ok-span.span c.loop-row-test.true c.row-item.is c.in_ok-span.ensures.same
    c.in_ok-span.ensures.id c.in_ok-push.ensures.items c.loop-row.invariant
