-- A number with the fact that it is in range.
use Rattle.std.specs.Prelude.{◌≡◌, ℕ, ◌≤◌, Bool, true, false, not, cond, List, ℤ, nat_lt, Result}
use Rattle.std.specs.Prelude.{Ok, Err, refl}
use Rattle.std.proofs.Common.{arith}
use Rattle.std.proofs.lemmas.Int.{ints}
use Rattle.std.proofs.lemmas.Bool.Decides.{nat_tests}
use Rattle.lpis_points.specs.Range.{IsInRange}
use Rattle.lpis_points.specs.declared.point.Point.{Point}
use Rattle.lpis_wkt.specs.declared.fault.WktCode.{WktCode}
use Rattle.lpis_wkt.specs.declared.coordinate.Coordinate.{Coordinate}
use Rattle.lpis_wkt.specs.Number.{number, number_within, is_numeral, is_fine, is_negative, size}
use Rattle.lpis_wkt.specs.Number.{coordinate_decimals, greatest_coordinate, signed}

signed-in_range : (negative : Bool) (n : ℕ) → n ≤ greatest_coordinate
    → IsInRange (signed negative n)
signed-in_range false n le = (omega (arith, ints), omega (arith, ints))
signed-in_range true n le = (omega (arith, ints), omega (arith, ints))

in_range-by : (a b c : Bool) (x y z : WktCode) (negative : Bool) (n : ℕ) (v : ℤ)
    → (c ≡ false → n ≤ greatest_coordinate)
    → cond (not a) (Err x) (cond (not b) (Err y) (cond c (Err z) (Ok (signed negative n)))) ≡ Ok v
    → IsInRange v
in_range-by true true false x y z negative n v le h = let e : signed negative n ≡ v = cc in
    rw (← e) (signed-in_range negative n (le refl))
in_range-by true true true x y z negative n v le h = cc
in_range-by true false c x y z negative n v le h = cc
in_range-by false b c x y z negative n v le h = cc

within : (n : ℕ) → nat_lt greatest_coordinate n ≡ false → n ≤ greatest_coordinate
within n h = grind (arith, nat_tests)

-- a number is in range
pub number-in_range : (w : List ℕ) (z : ℤ) → number w ≡ Ok z → IsInRange z
unfolding number number_within
number-in_range w z h =
    in_range-by (is_numeral w) (is_fine coordinate_decimals w)
    (nat_lt greatest_coordinate (size coordinate_decimals w)) _ _ _
    (is_negative w) (size coordinate_decimals w) z (within (size coordinate_decimals w)) h

abbrev pub with_range : (r : Result ℤ WktCode) → ((z : ℤ) → r ≡ Ok z → IsInRange z)
    → Result Coordinate WktCode
with_range (Ok z) h = Ok (record { value = z; in_range = h z refl })
with_range (Err code) h = Err code

-- the number of a word, in range
unfoldable pub coordinate_in_range : List ℕ → Result Coordinate WktCode
coordinate_in_range w = with_range (number w) (number-in_range w)

abbrev pub point_of : Coordinate → Coordinate → Point
point_of x y = record { x = x.value; y = y.value; x_in_range = x.in_range; y_in_range = y.in_range }
