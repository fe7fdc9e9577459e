use Rattle.std.proofs.Common.{◌≡◌, take}
use Rattle.lpis_register.proofs.reading.copied_shapes.Given as goal

abbrev pub invariant-loop-shape : goal.invariant-loop-shape
invariant-loop-shape l = l.copies.items ≡ take l.shape-index l.shapes
