use Rattle.std.proofs.Common.{◌≡◌, ◌+◌, drop}
use Rattle.lpis_lineage.specs.Changes.{kind_at}
use Rattle.lpis_lineage.specs.Faults.{marked_row_faults}
use Rattle.lpis_lineage.proofs.marks.check_marks.Given as goal

abbrev pub invariant-loop-i : goal.invariant-loop-i
invariant-loop-i l = marked_row_faults (kind_at l.change) l.row-items 1 l.row-items ≡ marked_row_faults (kind_at l.change) l.row-items (l.i + 1) (drop l.i l.row-items)
