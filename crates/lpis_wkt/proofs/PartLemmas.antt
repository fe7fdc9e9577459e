-- Parts of a text that grow by a byte, and the numerals that they are.
use Rattle.std.proofs.Common.{◌≡◌, ℕ, suc, ◌+◌, ◌-◌, ◌*◌, ◌^◌, ◌<◌, ◌≤◌, Bool, true, false, cond, not, ◌&&◌, ◌||◌, ◌==◌, List, [], ◌∷◌, ◌++◌, length, take, drop, get_or, refl, sym, ap, ◌∙◌, arith}
use Rattle.std.proofs.Common.{append_assoc, append-nil, length-append, length-drop, drop-cons, add-one, one-add, nat_lt, ℤ, Ok, Err}
use Rattle.lpis_wkt.proofs.Common.{and_parts, nat_tests, list_all, is_ascii_digit, digits_value, padded, IsPart, Word, tokens_from, is_word, WktCode}
use Rattle.std.proofs.Math.Seq.{take-append_seam, take-length}
use Rattle.std.proofs.lemmas.List.{drop_all, drop-drop, length-take-le, take-append-drop, take_all}
use Rattle.std.specs.List.{position_or_len, before_first, after_first}
use Rattle.lpis_wkt.specs.Number.{number_within, is_point, is_numeral, is_fine, size, signed, unsigned, is_negative}
use Rattle.lpis_wkt.specs.private.Runs.{IsPlain, IsTail, nothing, point, SpellsAt, AllWord, Stops, IsSign, none, plus, minus}
use Rattle.lpis_wkt.specs.declared.fault.WktCode.TheVariants.{NotANumber, TooFine, OutOfRange}
use Rattle.lpis_wkt.proofs.DigitLemmas.{digit_between, size_is}
use Rattle.std.proofs.Math.Nat.{zero-mul}
use Rattle.lpis_wkt.proofs.SplittingLemmas.{whole_word, stops-at}

-- from an offset up to itself stand no bytes
pub no_part : (text : List ℕ) (at : ℕ) → at ≤ length text → IsPart text at at []
no_part text at le = record { from = refl; past = omega arith; within = le }

-- a part of a text goes on by the byte that stands behind it
pub part_grows : (text : List ℕ) (at i : ℕ) (part : List ℕ) → IsPart text at i part → i < length text → IsPart text at (i + 1) (part ++ get_or text i 0 ∷ [])
part_grows text at i part p lt = record {
  from = p.from ∙ ap (λ (l : List ℕ). part ++ l) (drop-cons text i 0 lt) ∙ rw add-one (sym (append_assoc part (get_or text i 0 ∷ []) (drop (suc i) text)));
  past = let e = p.past in omega (arith, length-append part (get_or text i 0 ∷ []));
  within = omega arith;
}

-- two parts of a text, one from where the other ends, are one part
pub parts_joined : (text : List ℕ) (a b c : ℕ) (first second : List ℕ) → IsPart text a b first → IsPart text b c second → IsPart text a c (first ++ second)
parts_joined text a b c first second p q = record {
  from = p.from ∙ ap (λ (l : List ℕ). first ++ l) q.from ∙ sym (append_assoc first second (drop c text));
  past = let e = p.past in let f = q.past in omega (arith, length-append first second);
  within = q.within;
}

-- a slice from an offset on is what is left there
pub rest_is : (at : ℕ) (text : List ℕ) → take (length text - at) (drop at text) ≡ drop at text
rest_is at text = take_all (length text - at) (drop at text) (omega (arith, length-drop at text))

-- the first n bytes of a slice are a part of the text
pub part_of : (text : List ℕ) (at n : ℕ) → at ≤ length text → n ≤ length (take (length text - at) (drop at text)) → IsPart text at (at + n) (take n (take (length text - at) (drop at text)))
part_of text at n le within =
    let same = rest_is at text in
    let short : n ≤ length (drop at text) = rw same at within in
    rw same (record {
      from = sym (take-append-drop n (drop at text)) ∙ ap (λ l. take n (drop at text) ++ l) (drop-drop n at text);
      past = omega (arith, length-take-le n (drop at text) short);
      within = omega (arith, length-drop at text);
    })

-- what a digit is not
no_point : (b : ℕ) → is_ascii_digit b ≡ true → is_point b ≡ false
no_point b h = let d = digit_between b h in grind (arith, nat_tests)

no_sign : (b : ℕ) → is_ascii_digit b ≡ true → ((b == 43) ≡ false) × ((b == 45) ≡ false)
no_sign b h = let d = digit_between b h in (grind (arith, nat_tests), grind (arith, nat_tests))

word-by : (a b c d e f g : Bool) → a ≡ false → b ≡ false → c ≡ false → d ≡ false → e ≡ false → f ≡ false → g ≡ false → not ((a || b || c || d) || e || f || g) ≡ true
word-by a b c d e f g ha hb hc hd he hf hg = rw (ha, hb, hc, hd, he, hf, hg) refl

letter : (b : ℕ) → 45 < b → is_word b ≡ true
letter b lt = word-by (b == 32) (b == 9) (b == 13) (b == 10) (b == 40) (b == 41) (b == 44) (grind (arith, nat_tests))
    (grind (arith, nat_tests)) (grind (arith, nat_tests)) (grind (arith, nat_tests)) (grind (arith, nat_tests))
    (grind (arith, nat_tests)) (grind (arith, nat_tests))

digit-word : (b : ℕ) → is_ascii_digit b ≡ true → is_word b ≡ true
digit-word b h = let d = digit_between b h in letter b (omega arith)

digits-word : (ds : List ℕ) → list_all is_ascii_digit ds ≡ true → AllWord ds
digits-word [] h = tt
digits-word (b ∷ ds) h = let both = and_parts (is_ascii_digit b) (list_all is_ascii_digit ds) h in (digit-word b both.0, digits-word ds both.1)

words-append : (a b : List ℕ) → AllWord a → AllWord b → AllWord (a ++ b)
words-append [] b h k = k
words-append (x ∷ a) b h k = (h.0, words-append a b h.1 k)

-- the point of a numeral

point_past : (ds : List ℕ) → list_all is_ascii_digit ds ≡ true → position_or_len is_point ds ≡ length ds
point_past [] h = refl
point_past (b ∷ ds) h = let both = and_parts (is_ascii_digit b) (list_all is_ascii_digit ds) h in rw (no_point b both.0) (rw one-add (ap suc (point_past ds both.1)))

point_at : (ds more : List ℕ) → list_all is_ascii_digit ds ≡ true → position_or_len is_point (ds ++ 46 ∷ more) ≡ length ds
point_at [] more h = refl
point_at (b ∷ ds) more h = let both = and_parts (is_ascii_digit b) (list_all is_ascii_digit ds) h in rw (no_point b both.0) (rw one-add (ap suc (point_at ds more both.1)))

drop-front : (a b : List ℕ) (x : ℕ) → drop (suc (length a)) (a ++ x ∷ b) ≡ b
drop-front [] b x = refl
drop-front (y ∷ a) b x = drop-front a b x

-- of digits, a point and more bytes, the digits stand before the first point, and the other bytes after it
pub whole_of : (ds more : List ℕ) → list_all is_ascii_digit ds ≡ true → (before_first is_point (ds ++ 46 ∷ more) ≡ ds) × (after_first is_point (ds ++ 46 ∷ more) ≡ more)
whole_of ds more h = (rw (point_at ds more h) (take-append_seam ds (46 ∷ more)), rw (point_at ds more h) (rw add-one (drop-front ds more 46)))

whole_only : (ds : List ℕ) → list_all is_ascii_digit ds ≡ true → (before_first is_point ds ≡ ds) × (after_first is_point ds ≡ [])
whole_only ds h = (rw (point_past ds h) (take-length ds), rw (point_past ds h) (drop_all (length ds + 1) ds (omega arith)))

plain_sign : (ds more : List ℕ) → list_all is_ascii_digit ds ≡ true → 0 < length ds → (unsigned (ds ++ more) ≡ ds ++ more) × (is_negative (ds ++ more) ≡ false)
plain_sign [] more h some = absurd (omega arith)
plain_sign (b ∷ ds) more h some = let both = and_parts (is_ascii_digit b) (list_all is_ascii_digit ds) h in let d = no_sign b both.0 in (rw (d.0, d.1) refl, d.1)

-- digits, a point and no more decimals than are read
plain_decimals : (most greatest : ℕ) (ds more : List ℕ) (n : ℕ) → list_all is_ascii_digit ds ≡ true → 0 < length ds → list_all is_ascii_digit more ≡ true → length more ≤ most
    → n ≡ digits_value 10 (ds ++ padded most more) → n ≤ greatest → IsPlain most greatest (ds ++ 46 ∷ more) n
plain_decimals most greatest ds more n h some k few is le =
    let parts = whole_of ds more h in
    let sign = plain_sign ds (46 ∷ more) h some in
    let none : drop most more ≡ [] = drop_all most more few in
    record {
      whole = rw parts.0 h;
      decimals = rw parts.1 k;
      some = rw parts.0 some;
      fine = rw (parts.1, none) refl;
      size = rw (parts.0, parts.1) is;
      few = le;
      without_sign = sign.0;
      positive = sign.1;
      word = words-append ds (46 ∷ more) (digits-word ds h) (letter 46 (omega arith), digits-word more k);
    }

-- digits alone
plain_whole : (most greatest : ℕ) (ds : List ℕ) (n : ℕ) → list_all is_ascii_digit ds ≡ true → 0 < length ds → n ≡ digits_value 10 (ds ++ padded most []) → n ≤ greatest
    → IsPlain most greatest ds n
plain_whole most greatest ds n h some is le =
    let parts = whole_only ds h in
    let same : ds ++ [] ≡ ds = append-nil ds in
    let sign = plain_sign ds [] h some in
    record {
      whole = rw parts.0 h;
      decimals = rw parts.1 refl;
      some = rw parts.0 some;
      fine = rw (parts.1, drop_all {X = ℕ} most [] (omega arith)) refl;
      size = rw (parts.0, parts.1) is;
      few = le;
      without_sign = rw same at sign.0;
      positive = rw same at sign.1;
      word = digits-word ds h;
    }

-- digits, and a tail of decimals or none
pub plain_tail : (most greatest : ℕ) (ds tail : List ℕ) (part n : ℕ) → list_all is_ascii_digit ds ≡ true → 0 < length ds → IsTail most tail part
    → n ≡ digits_value 10 ds * 10 ^ most + part → n ≤ greatest → IsPlain most greatest (ds ++ tail) n
plain_tail most greatest ds tail part n h some nothing is le =
    let none : 0 * 10 ^ (most - 0) ≡ 0 = zero-mul (10 ^ (most - 0)) in
    let value : digits_value 10 ds * 10 ^ most + 0 ≡ digits_value 10 (ds ++ padded most []) = sym (size_is most ds [] (omega arith) ∙ ap (λ x. digits_value 10 ds * 10 ^ most + x) none) in
    rw (append-nil ds) (plain_whole most greatest ds n h some (is ∙ value) le)
plain_tail most greatest ds tail part n h some (point more all few) is le = plain_decimals most greatest ds more n h some all few (is ∙ sym (size_is most ds more few)) le

-- decimals, by their number and their value
pub tail_of : (most : ℕ) (ds : List ℕ) (value power count : ℕ) → list_all is_ascii_digit ds ≡ true → count ≡ length ds → count ≤ most → value ≡ digits_value 10 ds
    → power ≡ 10 ^ (most - count) → IsTail most (46 ∷ ds) (value * power)
tail_of most ds value power count all is le v p = rw (v, p, is) (point {most = most} ds all (omega arith))

-- the number of a word

number-by : (a b c : Bool) (x y z : WktCode) (v : ℤ) → a ≡ true → b ≡ true → c ≡ false → cond (not a) (Err x) (cond (not b) (Err y) (cond c (Err z) (Ok v))) ≡ Ok v
number-by a b c x y z v ha hb hc = rw (ha, hb, hc) refl

numeral : (a b : Bool) (m n : ℕ) → a ≡ true → b ≡ true → 0 < m → (a && b && nat_lt 0 (m + n)) ≡ true
numeral a b m n ha hb lt = let some : nat_lt 0 (m + n) ≡ true = grind (arith, nat_tests) in rw (ha, hb, some) refl

below : (greatest n m : ℕ) → n ≡ m → n ≤ greatest → nat_lt greatest m ≡ false
below greatest n m e le = grind (arith, nat_tests)

number_of : (most greatest : ℕ) (negative : Bool) (w body : List ℕ) (n : ℕ) → unsigned w ≡ body → is_negative w ≡ negative → IsPlain most greatest body n
    → number_within most greatest w ≡ Ok (signed negative n)
unfolding number_within
number_of most greatest negative w body n e f p =
    let amount : size most w ≡ n = rw e (sym p.size) in
    number-by (is_numeral w) (is_fine most w) (nat_lt greatest (size most w)) NotANumber TooFine OutOfRange (signed (is_negative w) (size most w))
    (rw e (numeral _ _ (length (before_first is_point body)) (length (after_first is_point body)) p.whole p.decimals p.some))
    (rw e p.fine)
    (rw e (below greatest n _ p.size p.few))
    ∙ rw (f, amount) refl

-- a plain numeral with a sign, or with none, spells its number with that sign
signed_number : (most greatest : ℕ) (sign body : List ℕ) (negative : Bool) (n : ℕ) → IsSign sign negative → IsPlain most greatest body n
    → number_within most greatest (sign ++ body) ≡ Ok (signed negative n)
signed_number most greatest sign body negative n none p = number_of most greatest false body body n p.without_sign p.positive p
signed_number most greatest sign body negative n plus p = number_of most greatest false (43 ∷ body) body n refl refl p
signed_number most greatest sign body negative n minus p = number_of most greatest true (45 ∷ body) body n refl refl p

sign-words : (sign : List ℕ) (negative : Bool) → IsSign sign negative → AllWord sign
sign-words sign negative none = tt
sign-words sign negative plus = (refl, tt)
sign-words sign negative minus = (refl, tt)

some-body : (most greatest : ℕ) (body : List ℕ) (n : ℕ) → IsPlain most greatest body n → 0 < length body
some-body most greatest [] n p = let some = p.some in absurd (omega arith)
some-body most greatest (b ∷ body) n p = omega (arith)

-- where a sign and a plain numeral stand, a word of both stands that spells its number
pub spells_at : (most greatest : ℕ) (text : List ℕ) (at start end : ℕ) (sign body : List ℕ) (negative : Bool) (n : ℕ) → IsSign sign negative → IsPart text at start sign → IsPart text start end body
    → IsPlain most greatest body n → SpellsAt most greatest text at end negative n (sign ++ body)
spells_at most greatest text at start end sign body negative n is p q plain = record {
  part = parts_joined text at start end sign body p q;
  some = let some = some-body most greatest body n plain in omega (arith, length-append sign body);
  letters = words-append sign body (sign-words sign negative is) plain.word;
  number = signed_number most greatest sign body negative n is plain;
  few = plain.few;
}

first_letter : (w rest : List ℕ) (at end : ℕ) → AllWord w → 0 < length w → Stops rest → end ≡ at + length w → tokens_from at (w ++ rest) ≡ (at, Word w) ∷ tokens_from end rest
first_letter [] rest at end all some stops e = absurd (omega arith)
first_letter (b ∷ w) rest at end all some stops e = rw e (whole_word at b w rest all.0 all.1 stops)

-- where a word stands that spells a number, and no word goes on behind it, it is the next token
pub found_word : (most greatest : ℕ) (text : List ℕ) (at end : ℕ) (negative : Bool) (n : ℕ) (word : List ℕ) → SpellsAt most greatest text at end negative n word
    → (end < length text → is_word (get_or text end 0) ≡ false) → tokens_from at (drop at text) ≡ (at, Word word) ∷ tokens_from end (drop end text)
found_word most greatest text at end negative n word s stop =
    ap (tokens_from at) s.part.from ∙ first_letter word (drop end text) at end s.letters s.some (stops-at end text stop) s.part.past

-- a word that ends where the text does is all of it
pub whole_text : (text : List ℕ) (end : ℕ) (word : List ℕ) → IsPart text 0 end word → end ≡ length text → text ≡ word
whole_text text end word p e =
    let none : drop end text ≡ [] = drop_all end text (omega arith) in
    p.from ∙ ap (λ l. word ++ l) none ∙ append-nil word
