-- Digits and the number that they write.
use Rattle.std.proofs.Common.{zero, suc, ◌^◌, add-zero, get_or-drop, ◌≡◌, ℕ, ◌+◌, ◌-◌, ◌*◌, ◌<◌, ◌≤◌, Bool, true, false, cond}
use Rattle.std.proofs.Common.{List, [], ◌∷◌, ◌++◌, length, take, drop, get_or, Option, Some, None, refl, sym, ap}
use Rattle.std.proofs.Common.{◌∙◌, arith, nat_lt, drop-cons, add-one, length-drop, MatchOption, position}
use Rattle.lpis_wkt.proofs.Common.{and_parts, nat_tests, list_all, digits_value, digits_value_after, is_ascii_digit, padded}
use Rattle.std.proofs.lemmas.Str.{digit_value_digit}
use Rattle.std.proofs.lemmas.List.{drop_all, take_all, drop-drop}
use Rattle.std.specs.List.{position_or_len, before_first, after_first}
use Rattle.std.specs.Char.{digit_value}
use Rattle.std.proofs.Math.Nat.{add-mul, mul_assoc, pow-succ'}
use Rattle.std.proofs.lemmas.Nat.{mul-le, pow-add}
use Rattle.lpis_digits.proofs.Shared.{value_behind}
use Rattle.lpis_wkt.specs.Number.{is_point}

-- digits behind a number never make it less
pub value-ge : (n : ℕ) (ds : List ℕ) → n ≤ digits_value_after 10 n ds
value-ge n [] = omega arith
value-ge n (d ∷ ds) = omega (arith, value-ge (n * 10 + digit_value d) ds)

-- the value of digits and more digits is that of the second part, read on from the value of the first
pub value-append : (n : ℕ) (a b : List ℕ) → digits_value_after 10 n (a ++ b) ≡ digits_value_after 10 (digits_value_after 10 n a) b
value-append n [] b = refl
value-append n (d ∷ a) b = value-append (n * 10 + digit_value d) a b

some-is : (k l i : ℕ) (b : Bool) → cond b (Some k) None ≡ Some i → k ≡ i
some-is k l i true h = cc
some-is k l i false h = cc

-- where a point is found, the bytes before the first point end at its index
pub point_found_at : (xs : List ℕ) (i : ℕ) → position is_point xs ≡ Some i → position_or_len is_point xs ≡ i
point_found_at xs i h = some-is (position_or_len is_point xs) 0 i (nat_lt (position_or_len is_point xs) (length xs)) h

none-is : (k : ℕ) (b : Bool) → cond b (Some k) None ≡ None → b ≡ false
none-is k true h = cc
none-is k false h = refl

not-found : (xs : List ℕ) → position is_point xs ≡ None → length xs ≤ position_or_len is_point xs
not-found xs h = let past = none-is (position_or_len is_point xs) (nat_lt (position_or_len is_point xs) (length xs)) h in grind (arith, nat_tests)

-- with a point at this index, the slices before and after it are the bytes before and after the first point
pub parts_some : (xs : List ℕ) (i : ℕ) → position is_point xs ≡ Some i → (take i xs ≡ before_first is_point xs) × (take (length xs - (i + 1)) (drop (i + 1) xs) ≡ after_first is_point xs)
parts_some xs i h =
    let at = point_found_at xs i h in
    rw at (refl, take_all (length xs - (i + 1)) (drop (i + 1) xs) (simp length-drop (omega arith)))

-- with no point, all bytes stand before it and none after it
pub parts_none : (xs : List ℕ) → position is_point xs ≡ None → (xs ≡ before_first is_point xs) × (◌≡◌ {A = List ℕ} [] (after_first is_point xs))
parts_none xs h =
    let past = not-found xs h in
    (sym (take_all (position_or_len is_point xs) xs past), sym (drop_all (position_or_len is_point xs + 1) xs (omega arith)))

-- a digit is one of the bytes 48 to 57
pub digit_between : (b : ℕ) → is_ascii_digit b ≡ true → (48 ≤ b) × (b < 58)
digit_between b h = (grind (arith, nat_tests), grind (arith, nat_tests))

-- the value of a digit is its byte less 48
pub is-digit : (b : ℕ) → is_ascii_digit b ≡ true → digit_value b ≡ b - 48
is-digit b h = let d = digit_between b h in omega (arith, digit_value_digit b (d.0, omega arith))

value_step : (n : ℕ) (ds : List ℕ) (i : ℕ) → i < length ds → list_all is_ascii_digit (drop i ds) ≡ true
    → digits_value_after 10 n (drop i ds) ≡ digits_value_after 10 (n * 10 + (get_or ds i 0 - 48)) (drop (i + 1) ds)
value_step n ds i lt h =
    let cons : drop i ds ≡ get_or ds i 0 ∷ drop (i + 1) ds = rw add-one (drop-cons ds i 0 lt) in
    let first : is_ascii_digit (get_or ds i 0) ≡ true = (and_parts _ _ (rw cons at h)).0 in
    rw cons (ap (λ (v : ℕ). digits_value_after 10 (n * 10 + v) (drop (i + 1) ds)) (is-digit _ first))

-- the value with the next digit is not above the value of all digits
pub digit_above : (n total : ℕ) (ds : List ℕ) (i : ℕ) → i < length ds → list_all is_ascii_digit (drop i ds) ≡ true → digits_value_after 10 n (drop i ds) ≡ total → n * 10 + (get_or ds i 0 - 48) ≤ total
digit_above n total ds i lt h e = let step = value_step n ds i lt h in let ge = value-ge (n * 10 + (get_or ds i 0 - 48)) (drop (i + 1) ds) in let total_is = sym step ∙ e in rw (← total_is) ge

padded-cons : (n : ℕ) (ds : List ℕ) → padded (suc n) ds ≡ get_or ds 0 48 ∷ padded n (drop 1 ds)
padded-cons n [] = refl
padded-cons n (d ∷ ds) = refl

-- the value of padded decimals is read on from the next one, which is 0 where the digits have ended
pub decimal_step : (v n : ℕ) (ds : List ℕ) (i : ℕ) → i < n → digits_value_after 10 v (padded (n - i) (drop i ds))
    ≡ digits_value_after 10 (v * 10 + digit_value (get_or ds i 48)) (padded (n - (i + 1)) (drop (i + 1) ds))
decimal_step v n ds i lt =
    let size : n - i ≡ suc (n - (i + 1)) = omega arith in
    let first : get_or (drop i ds) 0 48 ≡ get_or ds i 48 = rw (get_or-drop, add-zero) refl in
    let rest : drop 1 (drop i ds) ≡ drop (i + 1) ds = drop-drop 1 i ds in
    rw (size, padded-cons (n - (i + 1)) (drop i ds), first, rest) refl

-- the value with the next decimal, 0 where there is none, is not above the value of all padded decimals
pub decimal_above : (v n total : ℕ) (ds : List ℕ) (i : ℕ) → i < n → digits_value_after 10 v (padded (n - i) (drop i ds)) ≡ total → v * 10 + digit_value (get_or ds i 48) ≤ total
decimal_above v n total ds i lt e =
    let step = decimal_step v n ds i lt in
    let ge = value-ge (v * 10 + digit_value (get_or ds i 48)) (padded (n - (i + 1)) (drop (i + 1) ds)) in
    let total_is = sym step ∙ e in
    rw (← total_is) ge

-- from 0, the value of digits and more digits is that of the second part, read on from the value of the first
pub size_after : (ds more : List ℕ) → digits_value_after 10 0 (ds ++ more) ≡ digits_value_after 10 (digits_value_after 10 0 ds) more
size_after ds more = value-append 0 ds more

-- where digits are past the greatest number, so are they with more digits, and `None` is the right answer
pub whole_above : (greatest : ℕ) (ds more : List ℕ) (r : Option ℕ) (P : ℕ → Type 0) → greatest < digits_value_after 10 0 ds → r ≡ None
    → MatchOption r (greatest < digits_value_after 10 0 (ds ++ more)) P
whole_above greatest ds more r P h e =
    let ge : digits_value_after 10 0 ds ≤ digits_value_after 10 0 (ds ++ more) = rw (size_after ds more) (value-ge (digits_value_after 10 0 ds) more) in
    rw e (omega arith)

one-more : (v d p : ℕ) → (v * 10 + d) * p ≡ v * (10 * p) + d * p
one-more v d p = omega arith

-- decimals with zeros behind them are worth so many powers of ten more
padded_value : (n v : ℕ) (ds : List ℕ) → length ds ≤ n → digits_value_after 10 v (padded n ds) ≡ digits_value_after 10 v ds * 10 ^ (n - length ds)
padded_value zero v [] le = omega arith
padded_value zero v (d ∷ ds) le = absurd (omega arith)
padded_value (suc n) v [] le =
    let later : digits_value_after 10 (v * 10 + 0) (padded n []) ≡ (v * 10 + 0) * 10 ^ (n - 0) = padded_value n (v * 10 + 0) [] (omega arith) in
    let same : n - 0 ≡ n = omega arith in
    let less : suc n - 0 ≡ suc n = omega arith in
    let power : 10 ^ suc n ≡ 10 * 10 ^ n = pow-succ' 10 n in
    let whole : (v * 10 + 0) * 10 ^ n ≡ v * (10 * 10 ^ n) + 0 * 10 ^ n = one-more v 0 (10 ^ n) in
    later ∙ rw (same, less, power, whole) (omega arith)
padded_value (suc n) v (d ∷ ds) le =
    let less : suc n - suc (length ds) ≡ n - length ds = omega arith in
    padded_value n (v * 10 + digit_value d) ds (omega arith) ∙ ap (λ k. digits_value_after 10 (v * 10 + digit_value d) ds * 10 ^ k) (sym less)

-- digits, and decimals behind them with zeros: what the digits are worth, and what the decimals are worth
pub size_is : (n : ℕ) (ds more : List ℕ) → length more ≤ n
    → digits_value 10 (ds ++ padded n more) ≡ digits_value 10 ds * 10 ^ n + digits_value 10 more * 10 ^ (n - length more)
size_is n ds more le =
    let v : ℕ = digits_value 10 ds in
    let r : ℕ = digits_value 10 more in
    let k : ℕ = length more in
    let scaled : digits_value_after 10 v (padded n more) ≡ digits_value_after 10 v more * 10 ^ (n - k) = padded_value n v more le in
    let behind : digits_value_after 10 v more ≡ v * 10 ^ k + r = value_behind v more in
    let parts : (v * 10 ^ k + r) * 10 ^ (n - k) ≡ v * 10 ^ k * 10 ^ (n - k) + r * 10 ^ (n - k) = add-mul (v * 10 ^ k) r (10 ^ (n - k)) in
    let sum : k + (n - k) ≡ n = omega arith in
    let power : 10 ^ k * 10 ^ (n - k) ≡ 10 ^ n = sym (pow-add 10 k (n - k)) ∙ ap (λ j. 10 ^ j) sum in
    let whole : v * 10 ^ k * 10 ^ (n - k) ≡ v * 10 ^ n = mul_assoc v (10 ^ k) (10 ^ (n - k)) ∙ ap (λ x. v * x) power in
    size_after ds (padded n more) ∙ scaled ∙ ap (λ x. x * 10 ^ (n - k)) behind ∙ parts ∙ ap (λ x. x + r * 10 ^ (n - k)) whole

-- a power of ten is not 0
pub ten_positive : (n : ℕ) → 0 < 10 ^ n
ten_positive zero = omega arith
ten_positive (suc n) = let less = ten_positive n in let power : 10 ^ suc n ≡ 10 * 10 ^ n = pow-succ' 10 n in omega arith

-- what k of n decimals are worth is below one
pub scaled_below : (a k n : ℕ) → a < 10 ^ k → k ≤ n → a * 10 ^ (n - k) < 10 ^ n
scaled_below a k n lt le =
    let p : ℕ = 10 ^ (n - k) in
    let some : 0 < p = ten_positive (n - k) in
    let sum : k + (n - k) ≡ n = omega arith in
    let power : 10 ^ k * p ≡ 10 ^ n = sym (pow-add 10 k (n - k)) ∙ ap (λ j. 10 ^ j) sum in
    let above : (a + 1) * p ≤ 10 ^ k * p = mul-le (a + 1) p (10 ^ k) p (omega arith) (omega arith) in
    omega (arith, above, power, some)
