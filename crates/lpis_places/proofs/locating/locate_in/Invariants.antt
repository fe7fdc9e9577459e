use Rattle.std.proofs.Common.{take}
use Rattle.lpis_places.specs.private.Visits.{AreVisited}
use Rattle.lpis_places.proofs.locating.locate_in.Given as goal

abbrev pub invariant-loop-piece : goal.invariant-loop-piece
invariant-loop-piece l = AreVisited (take l.piece-index l.piece-items) l.points l.fn.found l.found
