use Rattle.std.proofs.Common.{take}
use Rattle.std.specs.List.{AllZip}
use Rattle.lpis_lineage_exact.specs.Asking.{IsWanted}
use Rattle.lpis_lineage_exact.specs.Shapes.{shape_named}
use Rattle.lpis_lineage_exact.proofs.asking.parts_of.Given as goal

abbrev pub invariant-loop-group : goal.invariant-loop-group
invariant-loop-group l = AllZip (IsWanted (shape_named l.kept) (shape_named l.new)) (take l.group-index l.groups) l.parts.items
