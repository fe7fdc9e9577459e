use Rattle.std.proofs.Common.{◌≡◌, ◌↔◌, drop}
use Rattle.std.specs.Slice.Iter.{iter_rest}
use Rattle.lpis_register.proofs.comparing.are_same_shapes.Given as goal

abbrev pub invariant-loop-shape : goal.invariant-loop-shape
invariant-loop-shape l = (l.a ≡ l.b) ↔ (drop l.shape-index l.a ≡ iter_rest l.rest)
