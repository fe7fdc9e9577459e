use Rattle.std.proofs.Common.{take}
use Rattle.lpis_lineage.specs.Changes.{kind_at}
use Rattle.lpis_lineage.specs.private.Marks.{AreMarks}
use Rattle.lpis_lineage.proofs.marks.marks_of.Given as goal

abbrev pub invariant-loop-row : goal.invariant-loop-row
invariant-loop-row l = AreMarks (kind_at l.change) l.marks (take l.row-index l.row-items)
