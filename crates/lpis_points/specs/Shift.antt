-- A point close to p that lies on no line through two different points in range, and that each edge
-- passes as it passes p.
use Rattle.std.specs.Prelude.{ℤ, pos, ◌+ℤ◌, ◌*ℤ◌}
use Rattle.lpis_points.specs.Plane.{RationalPoint}

-- larger than any difference of two coordinates
abbrev pub shift_scale : ℤ
shift_scale = pos 1000000000000

-- p moved by 1/n to the east and by 1/(n n) to the north, each in parts of d, where n is the scale
abbrev pub shifted : RationalPoint → RationalPoint
shifted p = record {
  x = p.x *ℤ shift_scale *ℤ shift_scale +ℤ shift_scale;
  y = p.y *ℤ shift_scale *ℤ shift_scale +ℤ pos 1;
  d = p.d *ℤ shift_scale *ℤ shift_scale;
}
