use Rattle.std.proofs.Common.{◌≡◌, take}
use Rattle.lpis_register_rows.proofs.marks.copied.Given as goal

abbrev pub invariant-loop-mark : goal.invariant-loop-mark
invariant-loop-mark l = l.copies.items ≡ take l.mark-index l.marks
