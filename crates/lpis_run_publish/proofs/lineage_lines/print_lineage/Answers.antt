use Rattle.lpis_tables.specs.Ids.{has_id}
use Rattle.lpis_run_publish.proofs.Common.{kind_at, lineage_line}
use Rattle.lpis_run.proofs.Shared.{text-goes-on}
use Rattle.lpis_run_publish.proofs.lineage_lines.print_lineage.Goals as goal

pub loop-id-preserved : goal.loop-id-preserved
loop-id-preserved g c =
    text-goes-on (lineage_line (kind_at c.args.change.now) (has_id c.args.marked.now.keys)) c.dropped-dropped.result.now c.loop-id.id-index
    c.id-item.result _ (g.W.Write.contents c.args.out.now) (g.W.Write.contents c.loop-id.out)
    (g.W.Write.contents c.print_dropped.new.out)
    c.loop-id-test.true c.id-item.is c.loop-id.invariant c.in_ok-print_dropped.ensures
