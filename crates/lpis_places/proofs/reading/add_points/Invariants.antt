use Rattle.std.proofs.Common.{◌≡◌, length}
use Rattle.lpis_places.proofs.PointsLemmas.{IsReadTo}
use Rattle.lpis_places.proofs.reading.add_points.Given as goal

-- the points of the rows so far were read
abbrev pub invariant-rows : goal.invariant-rows
invariant-rows l = IsReadTo l.initial.reader l.points.items l.reader × (l.row ≡ l.reader.number)

abbrev pub decreases-rows : goal.decreases-rows
decreases-rows l = length l.reader.rows
