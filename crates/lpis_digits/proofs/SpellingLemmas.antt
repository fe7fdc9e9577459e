-- What digits spell.
use Rattle.std.proofs.Common.{◌≡◌, ℕ, zero, suc, ◌+◌, ◌-◌, ◌*◌, ◌%◌, ◌^◌, ◌<◌, ◌≤◌, true, List, [], ◌∷◌, ◌++◌, length, replicate, refl, sym, ap, ◌∙◌, arith}
use Rattle.std.proofs.Math.Nat.{add-mul, mul_assoc, pow-succ'}
use Rattle.std.proofs.lemmas.Bool.{and_parts}
use Rattle.std.proofs.lemmas.Bool.Decides.{nat_tests}
use Rattle.std.proofs.lemmas.Str.{digit_value_digit}
use Rattle.std.proofs.lemmas.Int.Digits.{digits_value-lt}
use Rattle.std.specs.List.{list_all}
use Rattle.std.specs.Char.{digit_value, is_ascii_digit}
use Rattle.std.specs.Str.Parse.{AllDigits, digits_value, digits_value_after}
use Rattle.lpis_digits.specs.private.Words.{spelled}

-- a digit is one of the bytes 48 to 57
digit_between : (b : ℕ) → is_ascii_digit b ≡ true → (48 ≤ b) × (b < 58)
digit_between b h = (grind (arith, nat_tests), grind (arith, nat_tests))

-- its value is its lower half, and its byte less 48
pub digit_is : (b : ℕ) → is_ascii_digit b ≡ true → (digit_value b ≡ b % 16) × (digit_value b ≡ b - 48) × (digit_value b < 10)
digit_is b h =
    let d = digit_between b h in
    let v : digit_value b + 48 ≡ b = digit_value_digit b (d.0, omega arith) in
    let e : digit_value b ≡ b - 48 = omega arith in
    (omega arith, e, omega arith)

-- digits spell, by their lower halves, the number that they are
pub spelled_digits : (n : ℕ) (ds : List ℕ) → list_all is_ascii_digit ds ≡ true → spelled n ds ≡ digits_value_after 10 n ds
spelled_digits n [] h = refl
spelled_digits n (b ∷ bs) h =
    let both = and_parts (is_ascii_digit b) (list_all is_ascii_digit bs) h in
    ap (λ v. spelled (n * 10 + v) bs) (sym (digit_is b both.0).0) ∙ spelled_digits (n * 10 + digit_value b) bs both.1

-- zeros before them spell nothing
pub spelled_zeros : (n : ℕ) (ds : List ℕ) → spelled 0 (replicate n 0 ++ ds) ≡ spelled 0 ds
spelled_zeros zero ds = refl
spelled_zeros (suc n) ds = spelled_zeros n ds

all_digits : (ds : List ℕ) → list_all is_ascii_digit ds ≡ true → AllDigits 10 ds
all_digits [] h = tt
all_digits (b ∷ bs) h = let both = and_parts (is_ascii_digit b) (list_all is_ascii_digit bs) h in ((digit_is b both.0).2, all_digits bs both.1)

-- n digits spell less than 10^n
pub digits_below : (ds : List ℕ) → list_all is_ascii_digit ds ≡ true → digits_value 10 ds < 10 ^ length ds
digits_below ds h = digits_value-lt 10 ds (all_digits ds h)

-- digits after a number are worth the number times a power of ten, and what they spell alone
pub value_behind : (n : ℕ) (ds : List ℕ) → digits_value_after 10 n ds ≡ n * 10 ^ length ds + digits_value 10 ds
value_behind n [] = omega arith
value_behind n (b ∷ bs) =
    let d : ℕ = digit_value b in
    let t : ℕ = 10 ^ length bs in
    let here : digits_value_after 10 (n * 10 + d) bs ≡ (n * 10 + d) * t + digits_value 10 bs = value_behind (n * 10 + d) bs in
    let alone : digits_value_after 10 (0 * 10 + d) bs ≡ (0 * 10 + d) * t + digits_value 10 bs = value_behind (0 * 10 + d) bs in
    let parts : (n * 10 + d) * t ≡ n * 10 * t + d * t = add-mul (n * 10) d t in
    let power : 10 ^ suc (length bs) ≡ 10 * t = pow-succ' 10 (length bs) in
    let whole : n * 10 * t ≡ n * 10 ^ suc (length bs) = mul_assoc n 10 t ∙ ap (λ x. n * x) (sym power) in
    let zero_front : (0 * 10 + d) * t ≡ d * t = let e : 0 * 10 + d ≡ d = omega arith in ap (λ x. x * t) e in
    omega (arith, here, alone, parts, whole, zero_front)
