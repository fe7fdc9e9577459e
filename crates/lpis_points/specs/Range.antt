-- The range of a coordinate.
use Rattle.std.specs.Prelude.{ℤ, pos, neg_ℤ, ◌≤ℤ◌}

-- the greatest absolute value of a coordinate, in millimetres
abbrev pub limit : ℤ
limit = pos 20000000000

abbrev pub IsInRange : ℤ → Type 0
IsInRange z = (neg_ℤ limit ≤ℤ z) × (z ≤ℤ limit)
