-- The points and polygons of the examples, in millimetres.
use Rattle.std.specs.Prelude.{ℕ, suc, min, pos, ◌*ℤ◌, ◌≤ℤ◌, ◌<ℤ◌, List, [], ◌∷◌, ◌++◌, reverse}
use Rattle.lpis_points.specs.declared.point.Point.{Point}
use Rattle.lpis_points.specs.declared.triangle.Triangle.{Triangle}
use Rattle.lpis_points.specs.Plane.{RationalPoint}
use Rattle.lpis_rings.specs.declared.polygon.Member.{Member}
use Rattle.lpis_examples.specs.private.Small.{small-in-range}

-- the corner of a polygon that is x to the east and y to the north, each at most 100
abbrev pub corner : ℕ → ℕ → Point
corner x y = record {
  x = pos (min x 100);
  y = pos (min y 100);
  x_in_range = small-in-range x;
  y_in_range = small-in-range y;
}

-- the point of the plane that is x to the east and y to the north
abbrev pub place : ℕ → ℕ → RationalPoint
place x y = record { x = pos x; y = pos y; d = pos 1 }

-- the point that is x halves to the east and y halves to the north
abbrev pub halves : ℕ → ℕ → RationalPoint
halves x y = record { x = pos x; y = pos y; d = pos 2 }

-- the point that is x quarters to the east and y quarters to the north
abbrev pub quarters : ℕ → ℕ → RationalPoint
quarters x y = record { x = pos x; y = pos y; d = pos 4 }

-- the ring of a rectangle from its lower left corner to its upper right one, counter-clockwise
abbrev pub box : ℕ → ℕ → ℕ → ℕ → List Point
box left low right high =
    corner left low ∷ corner right low ∷ corner right high ∷ corner left high ∷ corner left low ∷ []

-- a polygon of one ring
abbrev pub land : List Point → List Member
land ring = record { shell = ring; holes = [] } ∷ []

-- a square of 4 by 4
abbrev pub square : List Member
square = land (box 0 0 4 4)

-- the lower left half of the square, below the slope from (4, 0) to (0, 4)
abbrev pub wedge : List Member
wedge = land (corner 0 0 ∷ corner 4 0 ∷ corner 0 4 ∷ corner 0 0 ∷ [])

-- the same square with a hole of 2 by 2 in its middle
abbrev pub frame : List Member
frame = record { shell = box 0 0 4 4; holes = box 1 1 3 3 ∷ [] } ∷ []

-- its hole written clockwise
abbrev pub backward_frame : List Member
backward_frame = record { shell = box 0 0 4 4; holes = reverse (box 1 1 3 3) ∷ [] } ∷ []

-- a rectangle of 8 by 4 with two holes of 2 by 2
abbrev pub two_holes : List Member
two_holes = record { shell = box 0 0 8 4; holes = box 1 1 3 3 ∷ box 5 1 7 3 ∷ [] } ∷ []

-- two squares of 4 by 4, and other land between them
abbrev pub apart : List Member
apart = square ++ land (box 8 0 12 4)

-- the same square listed twice, and three times
abbrev pub doubled : List Member
doubled = square ++ square

abbrev pub tripled : List Member
tripled = square ++ doubled

-- a square whose hole lies elsewhere
abbrev pub misplaced : List Member
misplaced = record { shell = box 0 0 4 4; holes = box 8 0 12 4 ∷ [] } ∷ []

-- the square with a hole of 2 by 2 outside of it
abbrev pub outside_hole : List Member
outside_hole = record { shell = box 0 0 4 4; holes = box 8 0 10 2 ∷ [] } ∷ []

-- the square; besides it a second square, listed twice; and in a third place a hole, listed twice.
-- It contains what the first square contains, and has its area
abbrev pub cancelling : List Member
cancelling = record { shell = box 0 0 4 4; holes = box 12 0 16 4 ∷ box 12 0 16 4 ∷ [] }
    ∷ land (box 8 0 12 4) ++ land (box 8 0 12 4)

-- a triangle that begins at x and contains no point with whole-millimetre coordinates
abbrev pub thin : ℕ → List Point
thin x = corner x 0 ∷ corner (suc x) 1 ∷ corner (suc x) 2 ∷ corner x 0 ∷ []

abbrev pub splinter : ℕ → List Member
splinter x = land (thin x)

-- as `cancelling`, with thin triangles in place of the second square and of the hole
abbrev pub thin_cancelling : List Member
thin_cancelling = record { shell = box 0 0 4 4; holes = thin 12 ∷ thin 12 ∷ [] }
    ∷ splinter 8 ++ splinter 8

-- the point is right of the left side or on it, and left of the right side; above the lower side or
-- on it, and below the upper one
abbrev pub IsWithin : ℕ → ℕ → ℕ → ℕ → RationalPoint → Type 0
IsWithin left low right high p =
    ((pos left *ℤ p.d) ≤ℤ p.x) × (p.x <ℤ (pos right *ℤ p.d)) × ((pos low *ℤ p.d) ≤ℤ p.y)
    × (p.y <ℤ (pos high *ℤ p.d))

-- the triangle of three corners
abbrev pub triangle : ℕ → ℕ → ℕ → ℕ → ℕ → ℕ → Triangle
triangle ax ay bx by cx cy = record { a = corner ax ay; b = corner bx by; c = corner cx cy }
