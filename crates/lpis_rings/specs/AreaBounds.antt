-- How large an area can be.
use Rattle.std.specs.Prelude.{ℕ, ◌*◌}
use Rattle.lpis_rings.specs.Polygon.{most_points}

-- the greatest absolute value of the term of an edge: twice the square of the limit of a coordinate
abbrev pub most_term : ℕ
most_term = 800000000000000000000

-- the greatest absolute value of a doubled area
abbrev pub most_area : ℕ
most_area = most_term * most_points
