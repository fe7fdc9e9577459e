use Rattle.std.proofs.Common.{take}
use Rattle.std.specs.List.{AllZip}
use Rattle.lpis_lineage_exact.specs.Asking.{HasShape}
use Rattle.lpis_lineage_exact.specs.Shapes.{shape_named}
use Rattle.lpis_lineage_exact.proofs.asking.kept_copies.Given as goal

abbrev pub invariant-loop-id : goal.invariant-loop-id
invariant-loop-id l = AllZip (HasShape (shape_named l.kept)) (take l.id-index l.ids) l.shapes.items
