-- A number has one spelling.
use Rattle.std.proofs.Common.{◌≡◌, ℕ, zero, suc, ◌+◌, ◌*◌, ◌/◌, ◌<◌, ◌≤◌, Bool, true, false, cond, ◌&&◌, List, [], ◌∷◌, length, get_or, Option, Some, None}
use Rattle.std.proofs.Common.{refl, sym, ap, ◌∙◌, arith, nat_le, eqb}
use Rattle.std.proofs.Common.{ℤ, pos, negsuc, neg_ℤ, nat_abs, decimal}
use Rattle.lpis_cert.proofs.Common.{nat_tests, and_parts, number_margin, Version, written, cert_number, CoordinateFits}
use Rattle.std.proofs.lemmas.Bool.{eqb-true}
use Rattle.std.proofs.lemmas.Int.{ints}
use Rattle.std.proofs.lemmas.Fmt.{decimal_digit, decimal_is_IsNumeral, first_decimal, decimal-digits_value}
use Rattle.std.proofs.lemmas.Str.Parse.{IsNumeralModel, numerals_by_value, tells_digits, digit_from_value}
use Rattle.std.specs.Char.{digit_value, is_ascii_digit}
use Rattle.std.specs.Str.Parse.{digits_value, digits_value_after, AllDigits}
use Rattle.lpis_tables.proofs.Shared.{value-ge}
use Rattle.lpis_points.specs.Range.{limit, IsInRange}
use Rattle.lpis_cert.specs.declared.version.Version.TheVariants.{One, Two}
use Rattle.std.specs.Fmt.{signed_decimal}
use Rattle.lpis_cert.specs.CertText.{coordinate_word}
use Rattle.lpis_cert.specs.Versions.{greatest_in_version, factor, units}
use Rattle.lpis_cert.specs.Reading.{cert_coordinate, digits_on, minus, plus}

-- a value that is given only where a test passes, and is given, shows that the test passed
pub some_needs_true : {A : Type 0} (b : Bool) (x : Option A) (y : A) → cond b x None ≡ Some y → (b ≡ true) × (x ≡ Some y)
some_needs_true true x y h = (refl, h)
some_needs_true false x y h = absurd cc

digit_yes : (d : ℕ) → digit_value d < 10 → is_ascii_digit d ≡ true
digit_yes d h = let r = digit_from_value d h in grind (arith, nat_tests)

digit_small : (d : ℕ) → is_ascii_digit d ≡ true → digit_value d < 10
digit_small d h = grind (arith, nat_tests)

digits_on_is : (limit n : ℕ) (ds : List ℕ) → AllDigits 10 ds → digits_value_after 10 n ds ≤ limit → digits_on limit n ds ≡ Some (digits_value_after 10 n ds)
digits_on_is limit n [] all le = refl
digits_on_is limit n (d ∷ ds) all le =
    let ge = value-ge (n * 10 + digit_value d) ds in
    let yes = digit_yes d all.0 in
    let small : nat_le (n * 10 + digit_value d) limit ≡ true =
    within (n * 10 + digit_value d) (digits_value_after 10 (n * 10 + digit_value d) ds) limit ge le in
    rw (yes, small) (digits_on_is limit (n * 10 + digit_value d) ds all.1 le)
  where
    within : (a b c : ℕ) → a ≤ b → b ≤ c → nat_le a c ≡ true
    within a b c h k = grind (arith, nat_tests)

digits_on_takes : (limit n : ℕ) (ds : List ℕ) (m : ℕ) → n ≤ limit → digits_on limit n ds ≡ Some m
    → AllDigits 10 ds × (digits_value_after 10 n ds ≡ m) × (m ≤ limit)
digits_on_takes limit n [] m le h = let e : n ≡ m = cc h in (tt, e, omega arith)
digits_on_takes limit n (d ∷ ds) m le h =
    let o = some_needs_true (is_ascii_digit d && nat_le (n * 10 + digit_value d) limit) (digits_on limit (n * 10 + digit_value d) ds) m h in
    let tests = and_parts (is_ascii_digit d) (nat_le (n * 10 + digit_value d) limit) o.0 in
    let r = digits_on_takes limit (n * 10 + digit_value d) ds m (below (n * 10 + digit_value d) limit tests.1) o.1 in
    ((digit_small d tests.0, r.0), r.1, r.2)
  where
    below : (a c : ℕ) → nat_le a c ≡ true → a ≤ c
    below a c h = grind (arith, nat_tests)

own : IsNumeralModel (AllDigits 10) (digits_value 10)
own = numerals_by_value (AllDigits 10) tells_digits

-- a byte above that of the digit 0 is not that digit
pub not-zero : (d : ℕ) → 48 < d → eqb d 48 ≡ false
not-zero d h = grind (arith, nat_tests)

numeral : (limit : ℕ) (ds : List ℕ) → AllDigits 10 ds → 48 < get_or ds 0 0 → digits_value 10 ds ≤ limit → cert_number limit ds ≡ Some (digits_value 10 ds)
unfolding cert_number
numeral limit [] all first le = absurd (omega arith)
numeral limit (d ∷ ds) all first le = rw (not-zero d first) (digits_on_is limit 0 (d ∷ ds) all le)

-- what is written is read
pub number_again : (limit n : ℕ) → limit ≤ number_margin → n ≤ limit → cert_number limit (decimal n) ≡ Some n
unfolding cert_number
number_again limit zero small le = rw (decimal_digit 0 (omega arith)) refl
number_again limit (suc n) small le =
    let d = decimal_is_IsNumeral (suc n) (omega arith) in
    let value = d.1 in
    numeral limit (decimal (suc n)) d.0.1 (first_decimal (suc n) (omega arith) (omega arith)) (omega (arith, value)) ∙ ap (λ (k : ℕ). Some k) value

zero_alone : (ds : List ℕ) (n : ℕ) → cond (eqb (length ds) 0) (Some 0) None ≡ Some n → (ds ≡ []) × (n ≡ 0)
zero_alone [] n h = (refl, cc)
zero_alone (d ∷ ds) n h = grind (arith, nat_tests)

differs : (d : ℕ) → eqb d 48 ≡ false → d ≡ 48 → ⊥
differs d e is = grind (arith, nat_tests)

-- what is read was written so
pub number_takes : (limit : ℕ) (w : List ℕ) (n : ℕ) → limit ≤ number_margin → cert_number limit w ≡ Some n → (w ≡ decimal n) × (n ≤ limit)
unfolding cert_number
number_takes limit [] n small h = absurd cc
number_takes limit (d ∷ ds) n small h = by_zero (eqb d 48) refl h
  where
    by_zero : (b : Bool) → eqb d 48 ≡ b → cond b (cond (eqb (length ds) 0) (Some 0) None) (digits_on limit 0 (d ∷ ds)) ≡ Some n
        → (◌≡◌ {A = List ℕ} (d ∷ ds) (decimal n)) × (n ≤ limit)
    by_zero true e h =
        let z = zero_alone ds n h in
        let first : d ≡ 48 = eqb-true d 48 e in
        rw (z.0, z.1, first) (sym (decimal_digit 0 (omega arith)), omega arith)
    by_zero false e h =
        let t = digits_on_takes limit 0 (d ∷ ds) n (omega arith) h in
        let value = t.1 in
        let most = t.2 in
        (sym (ap decimal (sym value) ∙ decimal-digits_value own (d ∷ ds) t.0 (omega arith) (λ is. absurd (differs d e is)) (omega (arith, value))), most)

-- ---- coordinates

above : (d : ℕ) → 48 < d → eqb d 45 ≡ false
above d h = grind (arith, nat_tests)

-- the greatest number of a coordinate is within the margin of numbers, in each version
pub greatest_small : (v : Version) → greatest_in_version v ≤ number_margin
greatest_small One = omega arith
greatest_small Two = omega arith

tenth : (n k : ℕ) → n ≡ k * 10 → n / 10 ≡ k
tenth n k e = omega arith

once : (n : ℕ) → n * 1 ≡ n
once n = omega arith

-- so many units, and so many below zero
of_units : (v : Version) (k : ℕ) → units v (pos (k * factor v)) ≡ pos k
of_units One k = ap pos (tenth (k * 10) k refl)
of_units Two k = ap pos (once k)

of_units_below : (v : Version) (k : ℕ) → units v (neg_ℤ (pos (suc k * factor v))) ≡ negsuc k
of_units_below One k = made (suc k * 10) k refl (omega arith)
  where
    made : (n k : ℕ) → n ≡ suc k * 10 → 0 < n → units One (neg_ℤ (pos n)) ≡ negsuc k
    made zero k e some = absurd (omega arith)
    made (suc n) k e some = ap (λ (m : ℕ). neg_ℤ (pos m)) (tenth (suc n) (suc k) e)
of_units_below Two k = ap (λ (m : ℕ). neg_ℤ (pos m)) (once (suc k))

abs_below : (n : ℕ) → nat_abs (neg_ℤ (pos n)) ≡ n
abs_below zero = refl
abs_below (suc n) = refl

above_fits : (v : Version) (k : ℕ) → k ≤ greatest_in_version v → CoordinateFits v (pos (k * factor v))
above_fits v k le = let is = of_units v k in record { whole = rw is refl; few = rw is le }

below_fits : (v : Version) (k : ℕ) → suc k ≤ greatest_in_version v → CoordinateFits v (neg_ℤ (pos (suc k * factor v)))
below_fits v k le = let is = of_units_below v k in record { whole = rw is (abs_below (suc k * factor v)); few = rw is le }

-- a coordinate that fits, by its units
data Written (v : Version) (z : ℤ) : Type 0 where
  Above : (k : ℕ) → k ≤ greatest_in_version v → units v z ≡ pos k → z ≡ pos (k * factor v) → Written v z
  Below : (k : ℕ) → suc k ≤ greatest_in_version v → units v z ≡ negsuc k → z ≡ neg_ℤ (pos (suc k * factor v)) → Written v z

below_tenth : (n k : ℕ) → suc n / 10 ≡ k → suc n ≡ nat_abs (neg_ℤ (pos k)) * 10 → nat_abs (neg_ℤ (pos k)) ≤ greatest_in_version One → Written One (negsuc n)
below_tenth n zero e whole few = absurd (omega arith)
below_tenth n (suc k) e whole few = Below k few (ap (λ (m : ℕ). neg_ℤ (pos m)) e) (ap (λ (m : ℕ). neg_ℤ (pos m)) whole)

written_as : (v : Version) (z : ℤ) → CoordinateFits v z → Written v z
written_as One (pos n) fits = Above (n / 10) fits.few refl (ap pos fits.whole)
written_as One (negsuc n) fits = below_tenth n (suc n / 10) refl fits.whole fits.few
written_as Two (pos n) fits = Above n fits.few refl (ap pos (sym (once n)))
written_as Two (negsuc n) fits = Below n fits.few refl (ap (λ (m : ℕ). neg_ℤ (pos m)) (sym (once (suc n))))

-- what is written is read

read_above : (v : Version) (w : List ℕ) (k : ℕ) → cert_number (greatest_in_version v) w ≡ Some k → eqb (get_or w 0 0) 45 ≡ false → cert_coordinate v w ≡ Some (pos (k * factor v))
unfolding cert_coordinate cert_number
read_above v [] k h first = absurd cc
read_above v (d ∷ ds) k h first = rw (first, h) refl

no_minus : (k : ℕ) → k ≤ number_margin → eqb (get_or (decimal k) 0 0) 45 ≡ false
no_minus zero le = rw (decimal_digit 0 (omega arith)) refl
no_minus (suc k) le = let first = first_decimal (suc k) (omega arith) (omega arith) in above (get_or (decimal (suc k)) 0 0) first

read_below : (v : Version) (w : List ℕ) (k : ℕ) → cert_number (greatest_in_version v) w ≡ Some (suc k) → cert_coordinate v (45 ∷ w) ≡ Some (neg_ℤ (pos (suc k * factor v)))
unfolding cert_coordinate
read_below v w k h = rw h refl

-- a coordinate that has a text in a version is read back from its word
pub coordinate_again : (v : Version) (z : ℤ) → CoordinateFits v z → cert_coordinate v (coordinate_word v z) ≡ Some z
coordinate_again v z fits = by_units (written_as v z fits)
  where
    by_units : Written v z → cert_coordinate v (coordinate_word v z) ≡ Some z
    by_units (Above k le is e) =
        let small = greatest_small v in
        ap (λ (u : ℤ). cert_coordinate v (signed_decimal u)) is
        ∙ read_above v (decimal k) k (number_again (greatest_in_version v) k small le) (no_minus k (omega arith)) ∙ ap (λ (x : ℤ). Some x) (sym e)
    by_units (Below k le is e) =
        ap (λ (u : ℤ). cert_coordinate v (signed_decimal u)) is
        ∙ read_below v (decimal (suc k)) k (number_again (greatest_in_version v) (suc k) (greatest_small v) le) ∙ ap (λ (x : ℤ). Some x) (sym e)

-- what is read was written so

minus_takes : (v : Version) (o : Option ℕ) (z : ℤ) → minus v o ≡ Some z → (n : ℕ) × (o ≡ Some (suc n)) × (z ≡ neg_ℤ (pos (suc n * factor v)))
minus_takes v (Some (suc n)) z h = (n, refl, cc)
minus_takes v _ z h = absurd cc

plus_takes : (v : Version) (o : Option ℕ) (z : ℤ) → plus v o ≡ Some z → (n : ℕ) × (o ≡ Some n) × (z ≡ pos (n * factor v))
plus_takes v None z h = absurd cc
plus_takes v (Some n) z h = (n, refl, cc)

made_minus : (v : Version) (d n : ℕ) (ds : List ℕ) (z : ℤ) → d ≡ 45 → ds ≡ decimal (suc n) → z ≡ neg_ℤ (pos (suc n * factor v)) → suc n ≤ greatest_in_version v
    → (◌≡◌ {A = List ℕ} (d ∷ ds) (coordinate_word v z)) × CoordinateFits v z
made_minus v d n ds z e f g most = rw (e, f, g) (ap signed_decimal (sym (of_units_below v n)), below_fits v n most)

made_plus : (v : Version) (n : ℕ) (w : List ℕ) (z : ℤ) → w ≡ decimal n → z ≡ pos (n * factor v) → n ≤ greatest_in_version v → (w ≡ coordinate_word v z) × CoordinateFits v z
made_plus v n w z f g most = rw (f, g) (ap signed_decimal (sym (of_units v n)), above_fits v n most)

-- what reads as a coordinate is the word of that coordinate, which has a text in the version
pub coordinate_takes : (v : Version) (w : List ℕ) (z : ℤ) → cert_coordinate v w ≡ Some z → (w ≡ coordinate_word v z) × CoordinateFits v z
unfolding cert_coordinate
coordinate_takes v [] z h = absurd cc
coordinate_takes v (d ∷ ds) z h = by_sign (eqb d 45) refl h
  where
    by_sign : (b : Bool) → eqb d 45 ≡ b → cond b (minus v (cert_number (greatest_in_version v) ds))
        (plus v (cert_number (greatest_in_version v) (d ∷ ds))) ≡ Some z → (◌≡◌ {A = List ℕ} (d ∷ ds) (coordinate_word v z))
        × CoordinateFits v z
    by_sign true e h =
        let m = minus_takes v (cert_number (greatest_in_version v) ds) z h in
        let t = number_takes (greatest_in_version v) ds (suc m.0) (greatest_small v) m.1 in
        made_minus v d m.0 ds z (eqb-true d 45 e) t.0 m.2 t.1
    by_sign false e h =
        let m = plus_takes v (cert_number (greatest_in_version v) (d ∷ ds)) z h in
        let t = number_takes (greatest_in_version v) (d ∷ ds) m.0 (greatest_small v) m.1 in
        made_plus v m.0 (d ∷ ds) z t.0 m.2 t.1

-- ---- ranges

most_written : (v : Version) (k : ℕ) → k ≤ greatest_in_version v → k * factor v ≤ nat_abs limit
most_written One k le = omega arith
most_written Two k le = omega arith

above_in : (n : ℕ) → n ≤ nat_abs limit → IsInRange (pos n)
above_in n le = (omega (arith, ints), omega (arith, ints))

below_in : (n : ℕ) → n ≤ nat_abs limit → IsInRange (neg_ℤ (pos n))
below_in zero le = (omega (arith, ints), omega (arith, ints))
below_in (suc n) le = (omega (arith, ints), omega (arith, ints))

-- what has a text is in range
pub in_range : (v : Version) (z : ℤ) → CoordinateFits v z → IsInRange z
in_range v z fits = by_units (written_as v z fits)
  where
    by_units : Written v z → IsInRange z
    by_units (Above k le is e) = rw e (above_in (k * factor v) (most_written v k le))
    by_units (Below k le is e) = rw e (below_in (suc k * factor v) (most_written v (suc k) le))

-- what is in range has a text of the version that is written
pub has_text : (z : ℤ) → IsInRange z → CoordinateFits written z
has_text (pos n) h = record { whole = sym (once n); few = omega (arith, ints, h.1) }
has_text (negsuc n) h = record { whole = sym (once (suc n)); few = omega (arith, ints, h.0) }
