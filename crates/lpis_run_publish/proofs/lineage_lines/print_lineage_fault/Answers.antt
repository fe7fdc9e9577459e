use Rattle.std.proofs.Common.{append_assoc}
use Rattle.lpis_run_publish.proofs.lineage_lines.print_lineage_fault.Goals as goal

pub returns-in_ok-write-in-UsedBefore : goal.returns-in_ok-write-in-UsedBefore
returns-in_ok-write-in-UsedBefore g c =
    let line = rw c.as_str-in-UsedBefore.ensures.text at c.in_ok-write-in-UsedBefore.ensures.bytes in
    rw c.in-UsedBefore.is (simp append_assoc line)
