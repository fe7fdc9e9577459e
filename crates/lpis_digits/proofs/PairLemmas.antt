-- The digits of a number, two at a time.
use Rattle.std.proofs.Common.{◌≡◌, ℕ, zero, suc, ◌+◌, ◌-◌, ◌*◌, ◌/◌, ◌%◌, ◌^◌, ◌<◌, ◌≤◌, Bool, true, ◌&&◌, T, eqb, List, [], ◌∷◌, ◌++◌, length}
use Rattle.std.proofs.Common.{get_or, ℤ, pos, negsuc, refl, ap, ◌∙◌, inl, inr, arith, eq-zero-or-pos, eqb→eq, append_assoc, length-append, false, int_le, unsigned_abs, sym, true≢false}
use lib.Dec.{leb-zero}
use lib.Ieee.Fits.{and_l, and_r}
use Rattle.std.proofs.lemmas.Fmt.{decimal_digit, decimal_step}
use Rattle.std.specs.Fmt.{decimal, signed_decimal}
use Rattle.lpis_points.specs.Decimals.{last_digits}
use Rattle.lpis_digits.specs.declared.writing.TheConstants.{PAIRS}

-- a number below a hundred in two digits
abbrev pub pair : ℕ → List ℕ
pair p = (48 + p / 10) ∷ (48 + p % 10) ∷ []

abbrev are_pairs : ℕ → Bool
are_pairs zero = true
are_pairs (suc p) = (eqb (get_or PAIRS (p * 2) 0) (48 + p / 10) && eqb (get_or PAIRS (p * 2 + 1) 0) (48 + p % 10)) && are_pairs p

below : (n p : ℕ) → T (are_pairs n) → p < n → (get_or PAIRS (p * 2) 0 ≡ 48 + p / 10) × (get_or PAIRS (p * 2 + 1) 0 ≡ 48 + p % 10)
below zero p t h = absurd (omega arith)
below (suc n) p t h =
    elim (eq-zero-or-pos (n - p)) [
      | inl z ↦ let e : p ≡ n = omega arith in let a = and_l _ (are_pairs n) t in rw e (eqb→eq _ _ (and_l _ _ a), eqb→eq _ _ (and_r _ _ a))
      | inr g ↦ below n p (and_r _ (are_pairs n) t) (omega arith)
    ]

-- what the table has at a number
pub pairs-at : (p : ℕ) → p < 100 → (get_or PAIRS (p * 2) 0 ≡ 48 + p / 10) × (get_or PAIRS (p * 2 + 1) 0 ≡ 48 + p % 10)
pairs-at p h = below 100 p tt h

-- how many digits a small number has, and which
pub length-one : (n : ℕ) → n < 10 → length (decimal n) ≡ 1
length-one n h = ap length (decimal_digit n h)

-- a number of two digits
pub decimal-two : (n : ℕ) → 10 ≤ n → n < 100 → decimal n ≡ pair n
decimal-two n lo hi = rw (decimal_step n lo (omega arith), decimal_digit (n / 10) (omega arith))

-- they are two
pub length-two : (n : ℕ) → 10 ≤ n → n < 100 → length (decimal n) ≡ 2
length-two n lo hi = ap length (decimal-two n lo hi)

-- a number ends with the pair of its remainder
pub decimal-pair : (n : ℕ) → 100 ≤ n → n < 2 ^ 64 → decimal n ≡ decimal (n / 100) ++ pair (n % 100)
decimal-pair n lo hi =
    let a : n / 10 / 10 ≡ n / 100 = omega arith in
    let b : n / 10 % 10 ≡ n % 100 / 10 = omega arith in
    let c : n % 10 ≡ n % 100 % 10 = omega arith in
    rw (decimal_step n (omega arith) hi, decimal_step (n / 10) (omega arith) (omega arith), append_assoc, a, b, ← c)

-- so it is longer by two than what is before the pair
pub length-pair : (n : ℕ) → 100 ≤ n → n < 2 ^ 64 → length (decimal n) ≡ length (decimal (n / 100)) + 2
length-pair n lo hi = ap length (decimal-pair n lo hi) ∙ length-append _ _

-- below zero a minus is before the size
pub minus-first : (z : ℤ) → int_le (pos 0) z ≡ false → 45 ∷ decimal (unsigned_abs z) ≡ signed_decimal z
minus-first (pos n) e = absurd (true≢false (sym (leb-zero n) ∙ e))
minus-first (negsuc n) e = refl

-- the last of some digits
pub last-step : (width done n : ℕ) (rest : List ℕ) → done < width
    → last_digits (width - done) n ++ rest ≡ last_digits (width - (done + 1)) (n / 10) ++ ((48 + n % 10) ∷ rest)
last-step width done n rest h =
    let e : width - done ≡ suc (width - (done + 1)) = omega arith in
    rw e (append_assoc (last_digits (width - (done + 1)) (n / 10)) ((48 + n % 10) ∷ []) rest)
