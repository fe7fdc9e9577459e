use Rattle.std.proofs.Common.{◌≡◌, ◌++◌, ◌∷◌, drop}
use Rattle.lpis_places.specs.private.Insides.{drawn}
use Rattle.lpis_places.proofs.edges.add_ring.Given as goal

abbrev pub invariant-loop-to : goal.invariant-loop-to
invariant-loop-to l = l.edges.items ++ drawn (l.from ∷ drop l.to-index l.others) ≡ l.fn.edges.items ++ drawn l.ring
