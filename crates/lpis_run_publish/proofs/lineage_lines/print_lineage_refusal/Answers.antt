use Rattle.std.proofs.Common.{◌++◌, codes}
use Rattle.lpis_run.proofs.Shared.{appends-more}
use Rattle.lpis_run_publish.specs.LineageLines.{lineage_fault_text}
use Rattle.lpis_run_publish.proofs.lineage_lines.print_lineage_refusal.Goals as goal

pub returns : goal.returns
returns g c =
    let start = g.W.Write.contents c.args.out.now in
    let fault = lineage_fault_text c.args.fault.now in
    appends-more start (g.W.Write.contents c.print_lineage_fault.new.out) (g.W.Write.contents c.write_all-2.new.self) (codes "refused 81 " ++ fault) (codes "\n")
    (appends-more start (g.W.Write.contents c.write_all.new.self) (g.W.Write.contents c.print_lineage_fault.new.out)
    (codes "refused 81 ") fault c.in_ok-write_all.ensures.bytes c.in_ok-print_lineage_fault.ensures)
    c.in_ok-write_all-2.ensures.bytes
