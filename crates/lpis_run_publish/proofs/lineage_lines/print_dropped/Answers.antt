use Rattle.std.proofs.Common.{append_assoc}
use Rattle.lpis_run_publish.proofs.lineage_lines.print_dropped.Goals as goal

pub returns : goal.returns
returns g c =
    let line = rw (c.as_str.ensures.text, c.fate_word-word.ensures, c.kind_of.ensures, c.exact_word-mark.ensures, c.contains.ensures) at c.in_ok-write.ensures.bytes in
    simp append_assoc line
