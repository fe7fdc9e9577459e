-- The coordinate that a word spells.
use Rattle.std.specs.Prelude.{ℕ, zero, suc, ◌+◌, Bool, false, not, ◌&&◌, ◌||◌, ◌==◌, cond, List, []}
use Rattle.std.specs.Prelude.{◌∷◌, ◌++◌, length, drop, ℤ, pos, neg_ℤ, nat_abs, Result, Ok, Err}
use Rattle.std.specs.Prelude.{nat_lt}
use Rattle.std.specs.List.{before_first, after_first, list_all}
use Rattle.std.specs.Char.{is_ascii_digit}
use Rattle.std.specs.Str.Parse.{digits_value}
use Rattle.lpis_points.specs.Range.{limit}
use Rattle.lpis_wkt.specs.declared.fault.WktCode.{WktCode}
use Rattle.lpis_wkt.specs.declared.fault.WktCode.TheVariants.{NotANumber, TooFine, OutOfRange}

-- the decimals of a coordinate: the text is in metres, the coordinate in millimetres
abbrev pub coordinate_decimals : ℕ
coordinate_decimals = 3

-- the most decimals that numbers are read with, and the greatest limit that they are read under:
-- ten times it fits 64 bits
abbrev pub most_decimals : ℕ
most_decimals = 9

abbrev pub greatest_limit : ℕ
greatest_limit = 100000000000000000

-- the word without its `+` or `-`
abbrev pub unsigned : List ℕ → List ℕ
unsigned [] = []
unsigned (b ∷ bs) = cond ((b == 43) || (b == 45)) bs (b ∷ bs)

abbrev pub is_negative : List ℕ → Bool
is_negative [] = false
is_negative (b ∷ bs) = b == 45

abbrev pub is_point : ℕ → Bool
is_point b = b == 46

-- what stands before the point, and what after it
abbrev pub whole : List ℕ → List ℕ
whole w = before_first is_point (unsigned w)

abbrev pub decimals : List ℕ → List ℕ
decimals w = after_first is_point (unsigned w)

-- digits, optionally a point and digits, one digit or more in all
abbrev pub is_numeral : List ℕ → Bool
is_numeral w = list_all is_ascii_digit (whole w) && list_all is_ascii_digit (decimals w)
    && nat_lt 0 (length (whole w) + length (decimals w))

-- each digit past so many decimals is 0
abbrev pub is_fine : ℕ → List ℕ → Bool
is_fine n w = list_all (λ b. b == 48) (drop n (decimals w))

-- the first n digits, with zeros for those that are not there
abbrev pub padded : ℕ → List ℕ → List ℕ
padded zero ds = []
padded (suc n) [] = 48 ∷ padded n []
padded (suc n) (d ∷ ds) = d ∷ padded n ds

-- the greatest size of a coordinate
abbrev pub greatest_coordinate : ℕ
greatest_coordinate = nat_abs limit

-- the number in units of the last of so many decimals, without its sign
abbrev pub size : ℕ → List ℕ → ℕ
size n w = digits_value 10 (whole w ++ padded n (decimals w))

abbrev pub signed : Bool → ℕ → ℤ
signed negative n = cond negative (neg_ℤ (pos n)) (pos n)

-- the number of a word in units of the last of so many decimals, if it is not past the greatest, or
-- what is wrong with it: no number, too many decimals, out of range
unfoldable pub number_within : ℕ → ℕ → List ℕ → Result ℤ WktCode
number_within n greatest w =
    cond (not (is_numeral w)) (Err NotANumber)
    (cond (not (is_fine n w)) (Err TooFine)
    (cond (nat_lt greatest (size n w)) (Err OutOfRange)
    (Ok (signed (is_negative w) (size n w)))))

-- the coordinate of a word, or what is wrong with it
unfoldable pub number : List ℕ → Result ℤ WktCode
number w = number_within coordinate_decimals greatest_coordinate w
