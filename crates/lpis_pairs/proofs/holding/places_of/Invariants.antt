use Rattle.lpis_pairs.proofs.HoldingLemmas.{PlacesBelow}
use Rattle.lpis_pairs.proofs.holding.places_of.Given as goal

abbrev pub invariant-loop-i : goal.invariant-loop-i
invariant-loop-i l = PlacesBelow l.boxes l.events.items l.i
