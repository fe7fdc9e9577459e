-- A number is read exactly.
use Rattle.std.proofs.Common.{◌≡◌, ℕ, zero, suc, ◌+◌, ◌*◌, ◌^◌, Bool, true, false, cond, not, ◌==◌, List, [], ◌∷◌, ◌++◌, length, drop, ℤ, pos, neg_ℤ, nat_abs, Ok, Err, refl, sym, ap, ◌∙◌, arith}
use Rattle.std.proofs.Common.{nat_lt}
use Rattle.lpis_wkt.proofs.Common.{and_parts, nat_tests, list_all, digits_value, digits_value_after, WktCode, coordinate_decimals, greatest_coordinate, number, padded}
use Rattle.std.specs.Char.{digit_value}
use Rattle.lpis_wkt.specs.Number.{number_within, whole, decimals, size, is_numeral, is_fine, is_negative, signed}
use Rattle.lpis_wkt.specs.private.Runs.{is_zero_digit}
use Rattle.lpis_wkt.proofs.DigitLemmas.{value-append}

digit_zero : (b : ℕ) → (b == 48) ≡ true → digit_value b ≡ 0
digit_zero b h = let e : b ≡ 48 = grind (arith, nat_tests) in rw e refl

power : (k : ℕ) → 10 ^ suc k ≡ 10 * 10 ^ k
power k = omega arith

ten : (v p : ℕ) → (v * 10 + 0) * p ≡ v * (10 * p)
ten v p = omega arith

-- digits that are all 0 multiply by powers of ten
zeros : (v : ℕ) (ds : List ℕ) → list_all is_zero_digit ds ≡ true → digits_value_after 10 v ds ≡ v * 10 ^ length ds
zeros v [] h = omega arith
zeros v (d ∷ ds) h =
    let both = and_parts (is_zero_digit d) (list_all is_zero_digit ds) h in
    let z : digit_value d ≡ 0 = digit_zero d both.0 in
    rw z (zeros (v * 10 + 0) ds both.1 ∙ ten v (10 ^ length ds) ∙ ap (λ (p : ℕ). v * p) (sym (power (length ds))))

one_digit : (x y p q : ℕ) → x * p ≡ q * y → x * (10 * p) ≡ (10 * q) * y
one_digit x y p q e = omega arith

no_digit : (x v q : ℕ) → x * 1 ≡ q * (v * 10 + 0) → x * 1 ≡ (10 * q) * v
no_digit x v q e = omega arith

nothing : (v : ℕ) (x : ℕ) → x ≡ v → v ≡ 1 * x
nothing v x e = omega arith

scaled : (n v : ℕ) (ds : List ℕ) → list_all is_zero_digit (drop n ds) ≡ true → digits_value_after 10 v (padded n ds) * 10 ^ length ds ≡ 10 ^ n * digits_value_after 10 v ds
scaled zero v ds h = sym (zeros v ds h) ∙ nothing (digits_value_after 10 v ds) (digits_value_after 10 v ds) refl
scaled (suc n) v [] h = rw (power n) (no_digit (digits_value_after 10 (v * 10 + 0) (padded n [])) v (10 ^ n) (scaled n (v * 10 + 0) [] (no_zeros n)))
  where
    no_zeros : (n : ℕ) → list_all is_zero_digit (drop n []) ≡ true
    no_zeros zero = refl
    no_zeros (suc n) = refl
scaled (suc n) v (d ∷ ds) h =
    let x : ℕ = digits_value_after 10 (v * 10 + digit_value d) (padded n ds) in
    let y : ℕ = digits_value_after 10 (v * 10 + digit_value d) ds in
    rw (power n, power (length ds)) (one_digit x y (10 ^ length ds) (10 ^ n) (scaled n (v * 10 + digit_value d) ds h))

accepted-by : (a b c : Bool) (x y z : WktCode) (n v : ℤ) → cond (not a) (Err x) (cond (not b) (Err y) (cond c (Err z) (Ok n))) ≡ Ok v → (b ≡ true) × (n ≡ v)
accepted-by true true false x y z n v h = (refl, cc)
accepted-by _ _ _ x y z n v h = cc

-- a number with a sign has its amount
pub abs-signed : (negative : Bool) (n : ℕ) → nat_abs (signed negative n) ≡ n
abs-signed true (suc n) = refl
abs-signed _ _ = refl

-- the amount of a number, times ten for each decimal of its word, is a thousand times the value of all its digits
pub number_is_exact : (w : List ℕ) (z : ℤ) → number w ≡ Ok z → nat_abs z * 10 ^ length (decimals w) ≡ 10 ^ coordinate_decimals * digits_value 10 (whole w ++ decimals w)
unfolding number number_within
number_is_exact w z h =
    let c = accepted-by (is_numeral w) (is_fine coordinate_decimals w) (nat_lt greatest_coordinate (size coordinate_decimals w)) _ _ _ (signed (is_negative w) (size coordinate_decimals w)) z h in
    let amount : nat_abs z ≡ size coordinate_decimals w = ap nat_abs (sym c.1) ∙ abs-signed (is_negative w) (size coordinate_decimals w) in
    let front : size coordinate_decimals w ≡ digits_value_after 10 (digits_value_after 10 0 (whole w)) (padded coordinate_decimals (decimals w)) =
    value-append 0 (whole w) (padded coordinate_decimals (decimals w)) in
    let back : digits_value 10 (whole w ++ decimals w) ≡ digits_value_after 10 (digits_value_after 10 0 (whole w)) (decimals w) = value-append 0 (whole w) (decimals w) in
    rw (amount, front, back) (scaled coordinate_decimals (digits_value_after 10 0 (whole w)) (decimals w) c.0)

-- a number is its amount with its sign
with_sign : (w : List ℕ) (z : ℤ) (negative : Bool) → is_negative w ≡ negative → number w ≡ Ok z → z ≡ signed negative (nat_abs z)
unfolding number number_within
with_sign w z negative is h =
    let c = accepted-by (is_numeral w) (is_fine coordinate_decimals w) (nat_lt greatest_coordinate (size coordinate_decimals w)) _ _ _ (signed (is_negative w) (size coordinate_decimals w)) z h in
    let amount : nat_abs z ≡ size coordinate_decimals w = ap nat_abs (sym c.1) ∙ abs-signed (is_negative w) (size coordinate_decimals w) in
    sym c.1 ∙ ap (λ (b : Bool). signed b (size coordinate_decimals w)) is ∙ ap (λ (n : ℕ). signed negative n) (sym amount)

-- the number of a word that begins with `-` is not above 0
pub minus_not_positive : (rest : List ℕ) (z : ℤ) → number (45 ∷ rest) ≡ Ok z → z ≡ neg_ℤ (pos (nat_abs z))
minus_not_positive rest z h = with_sign (45 ∷ rest) z true refl h

-- the number of a word that begins with any byte but `-` is not below 0
pub no_minus_not_negative : (b : ℕ) (rest : List ℕ) (z : ℤ) → (b ≡ 45 → ⊥) → number (b ∷ rest) ≡ Ok z → z ≡ pos (nat_abs z)
no_minus_not_negative b rest z other h = with_sign (b ∷ rest) z false (grind (arith, nat_tests)) h
