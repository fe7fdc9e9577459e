use Rattle.std.proofs.Common.{◌≡◌, All, None, Option, length}
use Rattle.lpis_places.specs.declared.place.Place.{Place}
use Rattle.lpis_places.proofs.place.no_places.Given as goal

abbrev pub invariant-loop : goal.invariant-loop
invariant-loop l = (length l.found.items ≡ l.counter) × All (λ (f : Option Place). f ≡ None) l.found.items
