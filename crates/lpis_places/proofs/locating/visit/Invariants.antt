use Rattle.lpis_places.proofs.BoxLemmas.{SettledStrips}
use Rattle.lpis_places.specs.private.Visits.{AreTouched}
use Rattle.lpis_places.proofs.locating.visit.Given as goal

abbrev pub invariant-loop-strip : goal.invariant-loop-strip
invariant-loop-strip l = AreTouched l.piece l.points l.fn.found l.found
    × SettledStrips l.piece l.points l.slots l.found l.first l.strip
