use Rattle.lpis_run_publish.specs.TraceAnswer.{id_line}
use Rattle.lpis_run.proofs.Shared.{text-goes-on}
use Rattle.lpis_run_publish.proofs.trace.print_ids.Goals as goal

pub loop-id-preserved : goal.loop-id-preserved
loop-id-preserved g c =
    text-goes-on id_line c.args.ids.now c.loop-id.id-index c.id-item.result _ (g.W.Write.contents c.args.out.now) (g.W.Write.contents c.loop-id.out) (g.W.Write.contents c.write.new.self)
    c.loop-id-test.true c.id-item.is c.loop-id.invariant (rw c.as_str.ensures.text at c.in_ok-write.ensures.bytes)
