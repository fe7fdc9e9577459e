-- Printed areas: square metres with every decimal, seven of an area and nine of an eligible area.
use Rattle.std.specs.Prelude.{◌*◌, ◌/◌, ◌^◌, ◌++◌, ℕ, ℤ}
use Rattle.std.specs.Prelude.{nat_abs, List, codes}
use Rattle.std.specs.Fmt.{decimal}
use Rattle.lpis_points.specs.Decimals.{last_digits, sign_text}

-- the greatest absolute value that is printed
abbrev pub most_printed : ℕ
most_printed = 6 * 10 ^ 37

-- n, divided by 10 to the power `width`, with `width` decimals
abbrev pub fixed_point : ℕ → ℕ → List ℕ
fixed_point width n = decimal (n / 10 ^ width) ++ codes "." ++ last_digits width n

-- five times d, divided by 10 to the power `width`, with `width` decimals
abbrev pub fives_text : ℕ → ℤ → List ℕ
fives_text width d = sign_text d ++ fixed_point width (5 * nat_abs d)

-- d doubled square millimetres, in square metres: one of them is 5/10^7 of a square metre
unfoldable pub area_text : ℤ → List ℕ
area_text d = fives_text 7 d

-- s of them at one percent each, in square metres: one is 5/10^9 of a square metre
unfoldable pub eligible_text : ℤ → List ℕ
eligible_text s = fives_text 9 s

-- an area on a line of its own
abbrev pub area_line : ℤ → List ℕ
area_line d = area_text d ++ codes "\n"
