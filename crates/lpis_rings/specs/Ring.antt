-- A ring is four points or more, the last equal to the first.
use Rattle.std.specs.Prelude.{◌≡◌, ◌≤◌, ◌-◌, List, length, slice_get}
use Rattle.lpis_points.specs.declared.point.Point.{Point}

-- four points or more, the last equal to the first
pub record IsRing (ps : List Point) : Type 0 where
  pub four : 4 ≤ length ps
  pub closed : slice_get ps (length ps - 1) ≡ slice_get ps 0
