use Rattle.std.proofs.Common.{◌≡◌, ◌+◌, length, take}
use Rattle.std.specs.Prelude.{sum_by}
use Rattle.lpis_cutter.proofs.unseparated.standing.Given as goal

abbrev pub invariant-loop-index : goal.invariant-loop-index
invariant-loop-index l = l.number ≡ sum_by (λ p. length p.triangles) (take l.index l.parts) + l.rest
