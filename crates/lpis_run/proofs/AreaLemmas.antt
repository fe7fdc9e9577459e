-- The text of an area.
use Rattle.std.proofs.Common.{◌≡◌, ◌≤◌, ◌<◌, ◌+◌, ◌*◌, ◌/◌, ◌%◌, ◌^◌, ◌++◌, ◌∷◌, [], ℕ, zero, suc, List, arith, refl, sym, ap, ◌∙◌, append_assoc}
use Rattle.std.proofs.Common.{decimal, ℤ, nat_abs, pos, negsuc, int_le, true, false, true≢false, length, length-append}
use lib.Dec.{leb-zero}
use Rattle.std.proofs.lemmas.Fmt.{decimal_step_wide, length-decimal-le_wide}
use Rattle.std.proofs.Math.Arith.{mod-mul}
use Rattle.std.proofs.Math.Nat.{pow-suc}
use Rattle.lpis_run.specs.Area.{fives_text}
use Rattle.lpis_points.specs.Decimals.{last_digits}

-- a number of 128 bits has at most 39 digits
pub length-wide : (n : ℕ) → n < 2 ^ 128 → length (decimal n) ≤ 39
length-wide n h = length-decimal-le_wide 39 n (omega arith) (omega arith) (omega arith)

-- it ends with the digit of its remainder
pub length-step : (n : ℕ) → 10 ≤ n → n < 2 ^ 128 → length (decimal n) ≡ length (decimal (n / 10)) + 1
length-step n lo hi = ap length (decimal_step_wide n lo (omega arith)) ∙ length-append (decimal (n / 10)) ((48 + n % 10) ∷ [])

ten_pow-pos : (w : ℕ) → 0 < 10 ^ w
ten_pow-pos zero = omega arith
ten_pow-pos (suc w) = omega (arith, pow-suc 10 w, ten_pow-pos w)

-- the last digits are those of the remainder
last_digits-mod : (w n : ℕ) → last_digits w (n % 10 ^ w) ≡ last_digits w n
last_digits-mod zero n = refl
last_digits-mod (suc w) n =
    let cut : n % 10 ^ suc w ≡ (n / 10 % 10 ^ w) * 10 + n % 10 =
    ap (λ (k : ℕ). n % k) (pow-suc 10 w) ∙ mod-mul n {m = 10 ^ w} {c = 10} (ten_pow-pos w) (omega arith) in
    let front : n % 10 ^ suc w / 10 ≡ n / 10 % 10 ^ w = omega arith in
    let end : n % 10 ^ suc w % 10 ≡ n % 10 = omega arith in
    ap (λ (x : List ℕ). x ++ (48 + n % 10 ^ suc w % 10) ∷ []) (ap (last_digits w) front ∙ last_digits-mod w (n / 10))
    ∙ ap (λ (d : ℕ). last_digits w (n / 10) ++ (48 + d) ∷ []) end

-- a number of fives, as it is written
abbrev size_text : ℕ → ℕ → ℕ → List ℕ
size_text w m n = decimal (5 * n / m) ++ (46 ∷ last_digits w (5 * n % m))

sized : (w m n : ℕ) → m ≡ 10 ^ w → size_text w m n ≡ (decimal (5 * n / 10 ^ w) ++ 46 ∷ []) ++ last_digits w (5 * n)
sized w m n a =
    rw a (
    ap (λ (x : List ℕ). decimal (5 * n / 10 ^ w) ++ (46 ∷ x)) (last_digits-mod w (5 * n))
    ∙ sym (append_assoc (decimal (5 * n / 10 ^ w)) (46 ∷ []) (last_digits w (5 * n))))

-- the text of a number of fives that is not below zero
pub plain-fives : (w : ℕ) (d : ℤ) (m n : ℕ) → m ≡ 10 ^ w → n ≡ nat_abs d → int_le (pos 0) d ≡ true → size_text w m n ≡ fives_text w d
plain-fives w (pos k) m n a b h = rw b (sized w m k a)
plain-fives w (negsuc k) m n a b h = absurd (true≢false (sym h))

-- and of one below zero
pub minus-fives : (w : ℕ) (d : ℤ) (m n : ℕ) → m ≡ 10 ^ w → n ≡ nat_abs d → int_le (pos 0) d ≡ false → 45 ∷ size_text w m n ≡ fives_text w d
minus-fives w (pos k) m n a b h = absurd (true≢false (sym (leb-zero k) ∙ h))
minus-fives w (negsuc k) m n a b h = rw b (ap (λ (x : List ℕ). 45 ∷ x) (sized w m (suc k) a))
