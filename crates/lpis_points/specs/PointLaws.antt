-- Laws of points, as statements.
use Rattle.std.specs.Prelude.{◌≡◌}
use Rattle.lpis_points.specs.declared.point.Point.{Point}

-- points with equal coordinates are equal
abbrev pub EqualByCoordinates : Type 0
EqualByCoordinates = (a b : Point) → a.x ≡ b.x → a.y ≡ b.y → a ≡ b
