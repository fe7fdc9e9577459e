-- The coordinate of a point that a word spells, in millionths of a millimetre.
use Rattle.std.specs.Prelude.{ℕ, ◌*ℤ◌, List, ℤ, pos, nat_abs, Result}
use Rattle.lpis_points.specs.Range.{limit}
use Rattle.lpis_wkt.specs.declared.fault.WktCode.{WktCode}
use Rattle.lpis_wkt.specs.Number.{number_within}

-- the decimals of a point's coordinate: the text is in metres
abbrev pub point_decimals : ℕ
point_decimals = 9

-- how many units of the last decimal a millimetre has
abbrev pub parts : ℤ
parts = pos 1000000

-- the greatest size of a point's coordinate
abbrev pub greatest_size : ℕ
greatest_size = nat_abs (limit *ℤ parts)

-- the coordinate of a word, or what is wrong with it: no number, too many decimals, out of range
unfoldable pub number : List ℕ → Result ℤ WktCode
number w = number_within point_decimals greatest_size w
