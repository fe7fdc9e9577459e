-- The range of a rational point that a call takes.
use Rattle.std.specs.Prelude.{ℤ, pos, neg_ℤ, ◌≤ℤ◌, ◌*ℤ◌}
use Rattle.lpis_points.specs.Range.{limit}

-- the greatest denominator
abbrev pub greatest_denominator : ℤ
greatest_denominator = pos 1000000

abbrev pub IsDenominator : ℤ → Type 0
IsDenominator d = (pos 1 ≤ℤ d) × (d ≤ℤ greatest_denominator)

-- z/d is in the range of a coordinate
abbrev pub IsInRangeOver : ℤ → ℤ → Type 0
IsInRangeOver d z = (neg_ℤ (limit *ℤ d) ≤ℤ z) × (z ≤ℤ (limit *ℤ d))
