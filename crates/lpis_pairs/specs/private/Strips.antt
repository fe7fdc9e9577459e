-- Boxes measured from the corner of the range, in whole centimetres, so that 32 bits hold them.
use Rattle.std.specs.Prelude.{ℕ, ℤ, ◌+◌, ◌/◌, ◌+ℤ◌, unsigned_abs}
use Rattle.lpis_points.specs.Range.{limit}
use Rattle.lpis_points.specs.Triangles.{box_of}
use Rattle.lpis_points.specs.declared.triangle.Triangle.{Triangle}
use Rattle.lpis_pairs.specs.declared.extents.Extent.{Extent}

-- how far a coordinate in range is above the least, in millimetres
abbrev pub offset : ℤ → ℕ
offset z = unsigned_abs (z +ℤ limit)

-- the greatest such number: twice the limit
abbrev pub most_offset : ℕ
most_offset = 40000000000

-- the same in centimetres, rounded down
abbrev pub rounded_down : ℤ → ℕ
rounded_down z = offset z / 10

-- the same in centimetres, rounded up
abbrev pub rounded_up : ℤ → ℕ
rounded_up z = (offset z + 9) / 10

-- the box of a triangle, or a little more: where a box begins before another one ends, it does so
-- in centimetres too
abbrev pub extent_of : Triangle → Extent
extent_of t = record {
  left = rounded_down (box_of t).x0;
  bottom = rounded_down (box_of t).y0;
  right = rounded_up (box_of t).x1;
  top = rounded_up (box_of t).y1;
}
