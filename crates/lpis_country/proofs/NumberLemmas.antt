-- A coordinate has one text.
use Rattle.std.proofs.Common.{◌≡◌, ◌≢◌, ℕ, zero, suc, ◌<◌, ◌≤◌, ◌^◌, Bool, true, false, cond, ◌&&◌, List, get_or, Option, Some, None, Result}
use Rattle.std.proofs.Common.{refl, sym, ap, subst, arith, nat_le, eqb, ℤ, pos, negsuc, neg_ℤ, nat_abs, unsigned_abs, is_err, decimal, IsUtf8}
use mir.Syntax.{w64}
use Rattle.std.specs.Int.Signed.{mag}
use mir.Val.{to_z, of_z}
use Rattle.std.proofs.lemmas.Bool.{and_parts}
use Rattle.std.proofs.lemmas.Bool.Decides.{nat_tests}
use Rattle.std.proofs.lemmas.Int.{ints, fits_signed_from_abs, to_z-of_z}
use Rattle.std.proofs.lemmas.Slice.Eq.{bytes_eq-Decides}
use Rattle.std.proofs.lemmas.Fmt.{decimal_digit, decimal_is_IsNumeral, first_decimal, parse-signed_decimal, IsAscii-signed}
use Rattle.std.proofs.lemmas.Str.{IsUtf8-from_ascii}
use Rattle.std.proofs.lemmas.Str.Parse.{without_leading_plus_none}
use Rattle.std.specs.Fmt.{signed_decimal}
use Rattle.std.specs.Str.{bytes_eq}
use Rattle.std.specs.Str.Parse.{digits_value, signed_digits_value, ParsesSigned}
use Rattle.lpis_points.specs.Range.{limit, IsInRange}
use Rattle.lpis_country.specs.Faults.{coordinate_in}

-- where a value comes only if a test is true, one that comes is that value, and the test was true
pub chosen_by_test : {A : Type 0} (b : Bool) (x y : A) → cond b (Some x) None ≡ Some y → (b ≡ true) × (x ≡ y)
chosen_by_test true x y h = (refl, cc h)
chosen_by_test false x y h = absurd cc

-- ---- ranges

-- a number whose absolute value passes the test for the limit is in range
pub within_range : (z : ℤ) → nat_le (nat_abs z) (nat_abs limit) ≡ true → IsInRange z
within_range z h = let le : nat_abs z ≤ nat_abs limit = below (nat_abs z) (nat_abs limit) h in by z le
  where
    below : (a b : ℕ) → nat_le a b ≡ true → a ≤ b
    below a b h = grind (arith, nat_tests)

    by : (z : ℤ) → nat_abs z ≤ nat_abs limit → IsInRange z
    by (pos n) le = (omega (arith, ints), omega (arith, ints))
    by (negsuc n) le = (omega (arith, ints), omega (arith, ints))

abs_small : (z : ℤ) → IsInRange z → nat_abs z ≤ nat_abs limit
abs_small (pos n) h = omega (arith, ints, h.1)
abs_small (negsuc n) h = omega (arith, ints, h.0)

-- the absolute value of a number in range passes the test for the limit
pub is_within : (z : ℤ) → IsInRange z → nat_le (nat_abs z) (nat_abs limit) ≡ true
is_within z h = above (nat_abs z) (nat_abs limit) (abs_small z h)
  where
    above : (a b : ℕ) → a ≤ b → nat_le a b ≡ true
    above a b h = grind (arith, nat_tests)

-- ---- what is read was written so

-- a word that is read to a coordinate is its decimal text, and the coordinate is in range
pub coordinate_takes : (w : List ℕ) (z : ℤ) → coordinate_in w ≡ Some z → (w ≡ signed_decimal z) × IsInRange z
unfolding coordinate_in
coordinate_takes w z h =
    let v : ℤ = signed_digits_value 10 w in
    let c = chosen_by_test (bytes_eq w (signed_decimal v) && nat_le (nat_abs v) (nat_abs limit)) v z h in
    let tests = and_parts (bytes_eq w (signed_decimal v)) (nat_le (nat_abs v) (nat_abs limit)) c.0 in
    subst (λ (y : ℤ). (w ≡ signed_decimal y) × IsInRange y) c.1 ((bytes_eq-Decides w (signed_decimal v)).0 tests.0, within_range v tests.1)

-- ---- what is written is read

first_digit : (n : ℕ) → n < 2 ^ 64 → 48 ≤ get_or (decimal n) 0 0
first_digit zero h = rw (decimal_digit 0 (omega arith)) (omega arith)
first_digit (suc n) h = omega (arith, first_decimal (suc n) (omega arith) h)

not_minus : (d : ℕ) → 48 ≤ d → eqb d 45 ≡ false
not_minus d h = grind (arith, nat_tests)

not_plus : (d : ℕ) → 48 ≤ d → d ≢ 43
not_plus d h e = omega arith

plain_value : (w : List ℕ) (n : ℕ) → 48 ≤ get_or w 0 0 → digits_value 10 w ≡ n → signed_digits_value 10 w ≡ pos n
plain_value w n first value = rw (not_minus (get_or w 0 0) first, without_leading_plus_none w (not_plus (get_or w 0 0) first), value) refl

value_again : (z : ℤ) → nat_abs z ≤ nat_abs limit → signed_digits_value 10 (signed_decimal z) ≡ z
value_again (pos n) le = plain_value (decimal n) n (first_digit n (omega arith)) (decimal_is_IsNumeral n (omega arith)).1
value_again (negsuc n) le = ap (λ (m : ℕ). neg_ℤ (pos m)) (decimal_is_IsNumeral (suc n) (omega arith)).1

-- the decimal text of a number in range is read to this number
pub coordinate_again : (z : ℤ) → IsInRange z → coordinate_in (signed_decimal z) ≡ Some z
unfolding coordinate_in
coordinate_again z h =
    let value = value_again z (abs_small z h) in
    rw (value, (bytes_eq-Decides (signed_decimal z) (signed_decimal z)).1 refl, is_within z h) refl

-- ---- what the code reads

none_where : {A : Type 0} (o : Option A) → ((x : A) → o ≡ Some x → ⊥) → o ≡ None
none_where None h = refl
none_where (Some x) h = absurd (h x refl)

small : (z : ℤ) → nat_abs z ≤ nat_abs limit → mag z < 2 ^ 63
small (pos n) le = omega arith
small (negsuc n) le = omega arith

-- a word that is no text is no coordinate
pub no_text : (w : List ℕ) → ¬ (IsUtf8 w) → coordinate_in w ≡ None
no_text w h = none_where (coordinate_in w) (λ z e.
    let t = coordinate_takes w z e in
    h (subst IsUtf8 (sym t.0) (IsUtf8-from_ascii (signed_decimal z) (IsAscii-signed z (small z (abs_small z t.1))))))

few : (z : ℤ) → IsInRange z → unsigned_abs z < 2 ^ 63
few (pos n) h = omega (arith, abs_small (pos n) h)
few (negsuc n) h = omega (arith, abs_small (negsuc n) h)

-- nor is a word that is not parsed
pub not_parsed : {E : Type 0} (w : List ℕ) (r : Result ℤ E) → ParsesSigned w64 10 w r → is_err r ≡ true → coordinate_in w ≡ None
not_parsed w r parses err = none_where (coordinate_in w) (λ z e.
    let t = coordinate_takes w z e in
    let ok = parse-signed_decimal w64 z w r (fits_signed_from_abs w64 z (few z t.1)) (small z (abs_small z t.1)) t.0 parses in
    cc (err, ok))

-- a coordinate is handed on as it is
pub handed_on_as_is : (z : ℤ) → IsInRange z → to_z w64 (of_z w64 z) ≡ z
handed_on_as_is z range = to_z-of_z w64 z (fits_signed_from_abs w64 z (few z range))
