use Rattle.std.proofs.Common.{append_assoc}
use Rattle.lpis_run_publish.proofs.lineage_lines.print_exact_refusal.Goals as goal

pub returns : goal.returns
returns g c =
    let line = rw (c.as_str.ensures, c.as_str-2.ensures.text) at c.in_ok-write.ensures.bytes in
    rw c.in-At.is (simp append_assoc line)
