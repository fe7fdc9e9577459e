use Rattle.std.proofs.Common.{◌≡◌, ◌≤◌, ◌++◌, drop, length, take}
use Rattle.lpis_register_rows.proofs.Common.{walked}
use Rattle.lpis_register_rows.specs.private.Marking.{unused}
use Rattle.lpis_register_rows.proofs.marks.mark_lines.Given as goal

abbrev pub invariant-loop-line : goal.invariant-loop-line
invariant-loop-line l = (take l.line-index l.lines ++ walked (drop l.next l.marks) (drop l.line-index l.lines) ≡ walked l.marks l.initial.lines)
    × (unused (drop l.next l.marks) (drop l.line-index l.lines) ≡ unused l.marks l.initial.lines) × (l.next ≤ length l.marks)
