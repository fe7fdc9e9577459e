-- The digits that a text begins with, and what they spell.
use Rattle.std.proofs.Common.{◌≡◌, ℕ, zero, suc, ◌+◌, ◌-◌, ◌*◌, ◌^◌, ◌<◌, ◌≤◌, Bool, true, false, cond, List, [], ◌∷◌, ◌++◌, length, take, drop, get_or, replicate, refl, sym, ap, ◌∙◌, arith}
use Rattle.std.proofs.Math.Seq.{take-add}
use Rattle.std.proofs.lemmas.List.{length-take-le, take-take}
use Rattle.std.proofs.lemmas.List.Sums.{prefix_len-le-length, prefix_len_stops}
use Rattle.std.specs.List.{list_all, prefix_len}
use Rattle.std.specs.Char.{digit_value, is_ascii_digit}
use Rattle.std.specs.Str.Parse.{digits_value, digits_value_after}
use Rattle.lpis_digits.specs.Digits.{digit_count}
use Rattle.lpis_digits.specs.private.Words.{AllBytes, behind_zeros, spelled}
use Rattle.lpis_digits.proofs.ByteLemmas.{run_of_take, run_passes}
use Rattle.lpis_digits.proofs.SpellingLemmas.{digits_below, spelled_digits, spelled_zeros, value_behind}

-- bytes behind zeros are eight bytes
zeros-long : (n : ℕ) (l : List ℕ) → length (replicate n 0 ++ l) ≡ n + length l
zeros-long zero l = omega arith
zeros-long (suc n) l = omega (arith, zeros-long n l)

zeros-bytes : (n : ℕ) (l : List ℕ) → AllBytes l → AllBytes (replicate n 0 ++ l)
zeros-bytes zero l h = h
zeros-bytes (suc n) l h = (omega arith, zeros-bytes n l h)

take-bytes : (n : ℕ) (l : List ℕ) → AllBytes l → AllBytes (take n l)
take-bytes zero l h = tt
take-bytes (suc n) [] h = tt
take-bytes (suc n) (x ∷ l) h = (h.0, take-bytes n l h.1)

-- they are eight
pub behind-long : (n : ℕ) (l : List ℕ) → n < 8 → length l ≡ 8 → length (behind_zeros n l) ≡ 8
behind-long n l lt long = omega (arith, zeros-long (8 - n) (take n l), length-take-le n l (omega arith))

-- and each is a byte
pub behind-bytes : (n : ℕ) (l : List ℕ) → AllBytes l → AllBytes (behind_zeros n l)
behind-bytes n l h = zeros-bytes (8 - n) (take n l) (take-bytes n l h)

-- what the digits among the first eight bytes spell
pub spelled_all : (text : List ℕ) (n : ℕ) → n ≡ prefix_len is_ascii_digit (take 8 text) → n ≡ 8 → spelled 0 (take 8 text) ≡ digits_value 10 (take n text)
spelled_all text n is full =
    let run : 8 ≤ prefix_len is_ascii_digit text = omega (arith, run_of_take is_ascii_digit 8 text) in
    spelled_digits 0 (take 8 text) (run_passes is_ascii_digit 8 text run) ∙ ap (λ k. digits_value 10 (take k text)) (sym full)

-- where the digits end before the eighth byte, and stand behind zeros
pub spelled_some : (text : List ℕ) (n : ℕ) → n ≡ prefix_len is_ascii_digit (take 8 text) → n < 8 → spelled 0 (behind_zeros n (take 8 text)) ≡ digits_value 10 (take n text)
spelled_some text n is lt =
    let run : n ≤ prefix_len is_ascii_digit text = omega (arith, run_of_take is_ascii_digit 8 text) in
    spelled_zeros (8 - n) (take n (take 8 text)) ∙ ap (spelled 0) (take-take n 8 text (omega arith)) ∙ spelled_digits 0 (take n text) (run_passes is_ascii_digit n text run)

-- within the run, n digits spell less than 10^n
pub value_below : (text : List ℕ) (n value : ℕ) → n ≤ prefix_len is_ascii_digit text → value ≡ digits_value 10 (take n text) → value < 10 ^ n
value_below text n value run is =
    let long : length (take n text) ≡ n = length-take-le n text (omega (arith, prefix_len-le-length is_ascii_digit text)) in
    let below : digits_value 10 (take n text) < 10 ^ length (take n text) = digits_below (take n text) (run_passes is_ascii_digit n text run) in
    rw is (rw long at below)

-- what is known of as many digits as are read
pub record Read (text : List ℕ) (n : ℕ) : Type 0 where
  pub within : n ≤ length text
  pub digits : list_all is_ascii_digit (take n text) ≡ true
  pub stops : n < length text → n < 16 → is_ascii_digit (get_or text n 0) ≡ false

-- it is known of the count that is defined
pub read : (text : List ℕ) (n : ℕ) → n ≡ digit_count text → Read text n
read text n is = record {
  within = omega (arith, prefix_len-le-length is_ascii_digit text);
  digits = run_passes is_ascii_digit n text (omega arith);
  stops = λ more few. let e : n ≡ prefix_len is_ascii_digit text = omega arith in rw e (prefix_len_stops is_ascii_digit text 0 (omega arith));
}

goes-by : (t : Bool) (n m r : ℕ) → suc n ≤ cond t (1 + m) 0 → (n ≤ m → m ≡ n + r) → cond t (1 + m) 0 ≡ suc n + r
goes-by true n m r le ih = let e = ih (omega arith) in omega arith
goes-by false n m r le ih = absurd (omega arith)

-- where the first n pass, the run goes on behind them
pub run_goes_on : (p : ℕ → Bool) (n : ℕ) (l : List ℕ) → n ≤ prefix_len p l → prefix_len p l ≡ n + prefix_len p (drop n l)
run_goes_on p zero l le = omega arith
run_goes_on p (suc n) [] le = absurd (omega arith)
run_goes_on p (suc n) (x ∷ l) le = goes-by (p x) n (prefix_len p l) (prefix_len p (drop n l)) le (run_goes_on p n l)

value-append : (n : ℕ) (a b : List ℕ) → digits_value_after 10 n (a ++ b) ≡ digits_value_after 10 (digits_value_after 10 n a) b
value-append n [] b = refl
value-append n (d ∷ a) b = value-append (n * 10 + digit_value d) a b

-- what eight digits and those behind them spell
pub value_joined : (text : List ℕ) (m a b : ℕ) → m ≤ length (drop 8 text) → a ≡ digits_value 10 (take 8 text) → b ≡ digits_value 10 (take m (drop 8 text))
    → a * 10 ^ m + b ≡ digits_value 10 (take (8 + m) text)
value_joined text m a b le first second =
    let long : length (take m (drop 8 text)) ≡ m = length-take-le m (drop 8 text) le in
    let back : digits_value_after 10 a (take m (drop 8 text)) ≡ a * 10 ^ length (take m (drop 8 text)) + digits_value 10 (take m (drop 8 text)) = value_behind a (take m (drop 8 text)) in
    let same : digits_value_after 10 a (take m (drop 8 text)) ≡ a * 10 ^ m + b = rw (long, ← second) at back in
    sym same ∙ ap (λ k. digits_value_after 10 k (take m (drop 8 text))) first ∙ sym (value-append 0 (take 8 text) (take m (drop 8 text))) ∙ ap (digits_value 10) (sym (take-add 8 m text))
