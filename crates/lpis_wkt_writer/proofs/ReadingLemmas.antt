-- The text of a coordinate is a word that spells it.
use Rattle.std.proofs.Common.{◌≡◌, ◌≤◌, ◌<◌, ◌+◌, ◌*◌, ◌/◌, ◌%◌, ◌++◌, ◌∷◌, [], ℕ, suc, List, length, drop, Bool, true, false, cond, not, ◌&&◌, ◌||◌, ◌==◌, nat_lt}
use Rattle.std.proofs.Common.{length-append, one-add, add-one, decimal, ℤ, nat_abs, pos, negsuc, Ok, Err, arith, refl, ap, ◌∙◌}
use Rattle.std.proofs.lemmas.Bool.{and_parts}
use Rattle.std.proofs.lemmas.Bool.Decides.{nat_tests}
use Rattle.std.proofs.lemmas.Int.{ints}
use Rattle.std.proofs.lemmas.Fmt.{decimal_is_IsNumeral}
use Rattle.std.proofs.lemmas.Str.{digit_value_digit}
use Rattle.std.proofs.lemmas.Str.Parse.{digit_from_value}
use Rattle.std.proofs.Math.Seq.{take-append_seam}
use Rattle.std.specs.Char.{digit_value, is_ascii_digit}
use Rattle.std.specs.List.{after_first, before_first, list_all, position_or_len}
use Rattle.std.specs.Str.Parse.{AllDigits, digits_value, digits_value_after}
use Rattle.lpis_points.specs.Range.{IsInRange}
use Rattle.lpis_wkt.specs.Number.{coordinate_decimals, greatest_coordinate, is_fine, is_negative, is_numeral, is_point, number, number_within, signed, size, unsigned}
use Rattle.lpis_wkt.specs.declared.fault.WktCode.{WktCode}
use Rattle.lpis_wkt.specs.declared.fault.WktCode.TheVariants.{NotANumber, OutOfRange, TooFine}
use Rattle.lpis_wkt.proofs.Shared.{AllWord, is_word}
use Rattle.lpis_wkt_writer.specs.Text.{number_text}
use Rattle.lpis_points.specs.Decimals.{last_digits}

abbrev AreDigits : List ℕ → Type 0
AreDigits ds = list_all is_ascii_digit ds ≡ true

-- ---- what a digit is, and what it is not
between : (b : ℕ) → is_ascii_digit b ≡ true → (48 ≤ b) × (b < 58)
between b h = (grind (arith, nat_tests), grind (arith, nat_tests))

no_point : (b : ℕ) → is_ascii_digit b ≡ true → is_point b ≡ false
no_point b h = let d = between b h in grind (arith, nat_tests)

no_sign : (b : ℕ) → is_ascii_digit b ≡ true → ((b == 43) ≡ false) × ((b == 45) ≡ false)
no_sign b h = let d = between b h in (grind (arith, nat_tests), grind (arith, nat_tests))

word-by : (a b c d e f g : Bool) → a ≡ false → b ≡ false → c ≡ false → d ≡ false → e ≡ false → f ≡ false → g ≡ false → not ((a || b || c || d) || e || f || g) ≡ true
word-by a b c d e f g ha hb hc hd he hf hg = rw (ha, hb, hc, hd, he, hf, hg) refl

letter : (b : ℕ) → 45 < b → is_word b ≡ true
letter b lt = word-by (b == 32) (b == 9) (b == 13) (b == 10) (b == 40) (b == 41) (b == 44) (grind (arith, nat_tests))
    (grind (arith, nat_tests)) (grind (arith, nat_tests)) (grind (arith, nat_tests)) (grind (arith, nat_tests))
    (grind (arith, nat_tests)) (grind (arith, nat_tests))

letters : (ds more : List ℕ) → AreDigits ds → AllWord more → AllWord (ds ++ more)
letters [] more h k = k
letters (b ∷ ds) more h k =
    let both = and_parts (is_ascii_digit b) (list_all is_ascii_digit ds) h in
    let d = between b both.0 in
    (letter b (omega arith), letters ds more both.1 k)

last-letters : (ds : List ℕ) → AreDigits ds → AllWord ds
last-letters [] h = tt
last-letters (b ∷ ds) h =
    let both = and_parts (is_ascii_digit b) (list_all is_ascii_digit ds) h in
    let d = between b both.0 in
    (letter b (omega arith), last-letters ds both.1)

-- ---- the digits of a coordinate, and their value
digits-of : (ds : List ℕ) → AllDigits 10 ds → AreDigits ds
digits-of [] h = refl
digits-of (c ∷ cs) h =
    let between = digit_from_value c h.0 in
    let first : is_ascii_digit c ≡ true = grind (arith, nat_tests) in
    rw first (digits-of cs h.1)

glyph : (d : ℕ) → d < 10 → is_ascii_digit (48 + d) ≡ true
glyph d low = grind (arith, nat_tests)

glyph-value : (d : ℕ) → d < 10 → digit_value (48 + d) ≡ d
glyph-value d low = let e = digit_value_digit (48 + d) (omega arith, omega arith) in omega (arith, e)

decimals-are-digits : (n : ℕ) → AreDigits (last_digits 3 n)
decimals-are-digits n = rw (glyph (n / 10 / 10 % 10) (omega arith), glyph (n / 10 % 10) (omega arith), glyph (n % 10) (omega arith)) refl

value-append : (n : ℕ) (a b : List ℕ) → digits_value_after 10 n (a ++ b) ≡ digits_value_after 10 (digits_value_after 10 n a) b
value-append n [] b = refl
value-append n (d ∷ a) b = value-append (n * 10 + digit_value d) a b

after-three : (m a b c : ℕ) → a < 10 → b < 10 → c < 10 → digits_value_after 10 m ((48 + a) ∷ (48 + b) ∷ (48 + c) ∷ []) ≡ ((m * 10 + a) * 10 + b) * 10 + c
after-three m a b c p q r = rw (glyph-value a p, glyph-value b q, glyph-value c r) refl

in-parts : (n : ℕ) → ((n / 1000 * 10 + n / 10 / 10 % 10) * 10 + n / 10 % 10) * 10 + n % 10 ≡ n
in-parts n = omega arith

amount : (n : ℕ) (ds : List ℕ) → digits_value 10 ds ≡ n / 1000 → digits_value 10 (ds ++ last_digits 3 n) ≡ n
amount n ds front =
    value-append 0 ds (last_digits 3 n) ∙ ap (λ (m : ℕ). digits_value_after 10 m (last_digits 3 n)) front
    ∙ after-three (n / 1000) (n / 10 / 10 % 10) (n / 10 % 10) (n % 10) (omega arith) (omega arith) (omega arith) ∙ in-parts n

-- ---- the parts of a numeral
point_at : (ds more : List ℕ) → AreDigits ds → position_or_len is_point (ds ++ 46 ∷ more) ≡ length ds
point_at [] more h = refl
point_at (b ∷ ds) more h =
    let both = and_parts (is_ascii_digit b) (list_all is_ascii_digit ds) h in
    rw (no_point b both.0) (rw one-add (ap suc (point_at ds more both.1)))

drop-front : (ds more : List ℕ) (b : ℕ) → drop (suc (length ds)) (ds ++ b ∷ more) ≡ more
drop-front [] more b = refl
drop-front (d ∷ ds) more b = drop-front ds more b

front : (ds more : List ℕ) → AreDigits ds → before_first is_point (ds ++ 46 ∷ more) ≡ ds
front ds more h = rw (point_at ds more h) (take-append_seam ds (46 ∷ more))

back : (ds more : List ℕ) → AreDigits ds → after_first is_point (ds ++ 46 ∷ more) ≡ more
back ds more h = rw (point_at ds more h) (rw add-one (drop-front ds more 46))

without_sign : (ds more : List ℕ) → AreDigits ds → 0 < length ds → (unsigned (ds ++ more) ≡ ds ++ more) × (is_negative (ds ++ more) ≡ false)
without_sign [] more h some = absurd (omega arith)
without_sign (b ∷ ds) more h some =
    let d = no_sign b (and_parts (is_ascii_digit b) (list_all is_ascii_digit ds) h).0 in
    (rw (d.0, d.1) refl, d.1)

-- ---- the number
number-by : (a b c : Bool) (x y z : WktCode) (v : ℤ) → a ≡ true → b ≡ true → c ≡ false → cond (not a) (Err x) (cond (not b) (Err y) (cond c (Err z) (Ok v))) ≡ Ok v
number-by a b c x y z v ha hb hc = rw (ha, hb, hc) refl

numeral : (a b : Bool) (m n : ℕ) → a ≡ true → b ≡ true → 0 < m → (a && b && nat_lt 0 (m + n)) ≡ true
numeral a b m n ha hb lt = let some : nat_lt 0 (m + n) ≡ true = grind (arith, nat_tests) in rw (ha, hb, some) refl

not-above : (n : ℕ) → n ≤ greatest_coordinate → nat_lt greatest_coordinate n ≡ false
not-above n le = grind (arith, nat_tests)

-- what the words of a coordinate have in common
record IsPlain (body : List ℕ) (n : ℕ) : Type 0 where
  digits : AreDigits (before_first is_point body)
  some : 0 < length (before_first is_point body)
  decimals : after_first is_point body ≡ last_digits 3 n
  value : digits_value 10 (before_first is_point body ++ last_digits 3 n) ≡ n
  few : n ≤ greatest_coordinate

reads : (negative : Bool) (w body : List ℕ) (n : ℕ) → unsigned w ≡ body → is_negative w ≡ negative → IsPlain body n → number w ≡ Ok (signed negative n)
unfolding number number_within
reads negative w body n e f p =
    let three = p.decimals in
    let sized : size coordinate_decimals w ≡ n = rw (e, three) p.value in
    number-by (is_numeral w) (is_fine coordinate_decimals w) (nat_lt greatest_coordinate (size coordinate_decimals w)) NotANumber TooFine OutOfRange
    (signed (is_negative w) (size coordinate_decimals w))
    (rw (e, three) (numeral _ _ (length (before_first is_point body)) (length (last_digits 3 n)) p.digits (decimals-are-digits n) p.some))
    (rw (e, three) refl)
    (rw sized (not-above n p.few))
    ∙ rw (f, sized) refl

plain : (ds : List ℕ) (n : ℕ) → AreDigits ds → 0 < length ds → digits_value 10 ds ≡ n / 1000 → n ≤ greatest_coordinate → IsPlain (ds ++ 46 ∷ last_digits 3 n) n
plain ds n h some value few = record {
  digits = rw (front ds (last_digits 3 n) h) h;
  some = rw (front ds (last_digits 3 n) h) some;
  decimals = back ds (last_digits 3 n) h;
  value = rw (front ds (last_digits 3 n) h) (amount n ds value);
  few = few;
}

-- the size of a coordinate is within the limit
pub size-small : (z : ℤ) → IsInRange z → nat_abs z ≤ greatest_coordinate
size-small (pos n) h = let a = h.1 in omega (arith, ints)
size-small (negsuc n) h = let a = h.0 in omega (arith, ints)

-- the text of a coordinate is a word that spells it
pub record IsSpelled (z : ℤ) : Type 0 where
  pub number : number (number_text z) ≡ Ok z
  pub word : AllWord (number_text z)
  pub some : 0 < length (number_text z)

longer : (ds more : List ℕ) → 0 < length (ds ++ 46 ∷ more)
longer ds more = omega (arith, length-append ds (46 ∷ more))

-- each coordinate in range is spelled by its text, which is one word
pub coordinate_is_spelled : (z : ℤ) → IsInRange z → IsSpelled z
unfolding number_text
coordinate_is_spelled (pos n) h =
    let few = size-small (pos n) h in
    let ds = decimal (n / 1000) in
    let is = decimal_is_IsNumeral (n / 1000) (omega arith) in
    let digits = digits-of ds is.0.1 in
    let sign = without_sign ds (46 ∷ last_digits 3 n) digits is.0.0 in
    record {
      number = reads false (ds ++ 46 ∷ last_digits 3 n) (ds ++ 46 ∷ last_digits 3 n) n sign.0 sign.1 (plain ds n digits is.0.0 is.1 few);
      word = letters ds (46 ∷ last_digits 3 n) digits (refl, last-letters (last_digits 3 n) (decimals-are-digits n));
      some = longer ds (last_digits 3 n);
    }
coordinate_is_spelled (negsuc n) h =
    let few = size-small (negsuc n) h in
    let ds = decimal (suc n / 1000) in
    let is = decimal_is_IsNumeral (suc n / 1000) (omega arith) in
    let digits = digits-of ds is.0.1 in
    record {
      number = reads true (45 ∷ ds ++ 46 ∷ last_digits 3 (suc n)) (ds ++ 46 ∷ last_digits 3 (suc n)) (suc n) refl refl (plain ds (suc n) digits is.0.0 is.1 few);
      word = (refl, letters ds (46 ∷ last_digits 3 (suc n)) digits (refl, last-letters (last_digits 3 (suc n)) (decimals-are-digits (suc n))));
      some = omega arith;
    }
