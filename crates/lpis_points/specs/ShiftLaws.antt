-- Laws of the shifted point, as statements.
use Rattle.std.specs.Prelude.{◌≡◌, ◌≢◌, pos, ◌+ℤ◌, ◌-ℤ◌, ◌*ℤ◌, ◌<ℤ◌}
use Rattle.lpis_points.specs.declared.point.Point.{Point}
use Rattle.lpis_points.specs.Plane.{RationalPoint, orient_at, crossing}
use Rattle.lpis_points.specs.Shift.{shift_scale, shifted}

-- the side of the shifted point
abbrev pub ShiftedSide : Type 0
ShiftedSide =
    (a b : Point) (p : RationalPoint) → orient_at a b (shifted p) ≡ shift_scale *ℤ shift_scale *ℤ
    orient_at a b p -ℤ shift_scale *ℤ (b.y -ℤ a.y) +ℤ (b.x -ℤ a.x)

-- it is off every line through two different points in range
abbrev pub ShiftedIsOffLines : Type 0
ShiftedIsOffLines = (a b : Point) (p : RationalPoint) → a ≢ b → orient_at a b (shifted p) ≢ pos 0

-- each edge has the same crossing by it
abbrev pub ShiftedCrossesAlike : Type 0
ShiftedCrossesAlike = (a b : Point) (p : RationalPoint) → pos 0 <ℤ p.d
    → crossing a b (shifted p) ≡ crossing a b p
