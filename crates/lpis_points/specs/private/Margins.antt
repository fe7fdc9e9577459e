-- How large the numbers get on the way to a side. Each bound is computed from the first two, which
-- are the limit of a coordinate and the greatest denominator.
use Rattle.std.specs.Prelude.{ℕ, ◌*◌}

abbrev pub coordinate_margin : ℕ
coordinate_margin = 20000000000

abbrev pub denominator_margin : ℕ
denominator_margin = 1000000

-- from one coordinate to another
abbrev pub step_margin : ℕ
step_margin = 2 * coordinate_margin

-- a coordinate in parts of a denominator
abbrev pub height_margin : ℕ
height_margin = coordinate_margin * denominator_margin

-- from one such number to another
abbrev pub offset_margin : ℕ
offset_margin = 2 * height_margin

abbrev pub product_margin : ℕ
product_margin = step_margin * offset_margin
