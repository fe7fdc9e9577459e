-- Lines of corners, read in one pass.
use Rattle.std.proofs.Common.{◌≡◌, ℕ, ◌+◌, ◌-◌, ◌*◌, ◌^◌, ◌<◌, ◌≤◌, Bool, true, false, cond, List, [], ◌∷◌, ◌++◌, length, take, drop, get_or, refl, sym, ap}
use Rattle.std.proofs.Common.{◌∙◌, arith}
use Rattle.std.proofs.Common.{append_assoc, length-append, length-take, length-take-le, drop-cons, add-one, decimal}
use Rattle.lpis_cert.proofs.Common.{nat_tests, and_parts, Version, CornersFit, LineFits, Corners, spelling, words_of, text_of_lines, ReadsLines}
use Rattle.lpis_cert.proofs.Common.{corner_line, CertLine, PairLine, Separator, SeparatorFits}
use Rattle.std.proofs.lemmas.Fmt.{decimal-digits_value, decimal_digit}
use Rattle.std.proofs.lemmas.Int.Digits.{digits_push, digits_value_more}
use Rattle.std.proofs.lemmas.Str.{digit_value_digit}
use Rattle.std.proofs.lemmas.Str.Parse.{IsNumeralModel, numerals_by_value, tells_digits, digits_value_short}
use Rattle.std.proofs.lemmas.List.{take_all, take-append-drop, take-take, take_more, get_or-take}
use Rattle.std.specs.Char.{digit_value, is_ascii_digit}
use Rattle.std.specs.List.{list_all}
use Rattle.std.specs.Str.Parse.{AllDigits, digits_value}
use Rattle.lpis_cert.specs.private.Taken.{BeginsWithWord}
use Rattle.lpis_cert.specs.CertText.{coordinate_word}
use Rattle.lpis_cert.proofs.SplittingLemmas.{rest_is}

own : IsNumeralModel (AllDigits 10) (digits_value 10)
own = numerals_by_value (AllDigits 10) tells_digits

digit_is : (d : ℕ) → is_ascii_digit d ≡ true → digit_value d ≡ d - 48
digit_is d h = grind (arith, nat_tests, digit_value_digit)

digit_small : (d : ℕ) → is_ascii_digit d ≡ true → digit_value d < 10
digit_small d h = grind (arith, nat_tests, digit_value_digit)

all_digits : (ds : List ℕ) → list_all is_ascii_digit ds ≡ true → AllDigits 10 ds
all_digits [] h = tt
all_digits (d ∷ ds) h =
    let both = and_parts (is_ascii_digit d) (list_all is_ascii_digit ds) h in
    (digit_small d both.0, all_digits ds both.1)

-- digits among the first bytes are digits of the text
pub first_digits_are : (xs : List ℕ) (m n v : ℕ) → n ≤ length (take m xs) → list_all is_ascii_digit (take n (take m xs)) ≡ true → v ≡ digits_value 10 (take n (take m xs))
    → (n ≤ length xs) × (n ≤ m) × AllDigits 10 (take n xs) × (v ≡ digits_value 10 (take n xs))
first_digits_are xs m n v within all value =
    let len = length-take m xs in
    let few : n ≤ m = omega (arith, len, within) in
    let same : take n (take m xs) ≡ take n xs = take-take n m xs few in
    (omega (arith, len, within), few, all_digits (take n xs) (rw same at all), rw same at value)

-- one more digit
pub digits_more : (i v r : ℕ) (xs : List ℕ) → i < length xs → AllDigits 10 (take i xs) → v ≡ digits_value 10 (take i xs) → is_ascii_digit (get_or xs i 0) ≡ true
    → r ≡ get_or xs i 0 - 48 → AllDigits 10 (take (i + 1) xs) × (v * 10 + r ≡ digits_value 10 (take (i + 1) xs))
digits_more i v r xs lt all value digit is =
    let more = take_more xs i 0 lt in (
      rw more (digits_push 10 (take i xs) (get_or xs i 0) all (digit_small (get_or xs i 0) digit)),
      rw (value, is, digits_value_more 10 xs i lt, digit_is (get_or xs i 0) digit) refl,
    )

-- what at most 16 digits spell leaves room for one more digit
pub digits_room : (i v : ℕ) (xs : List ℕ) → i ≤ 16 → AllDigits 10 (take i xs) → v ≡ digits_value 10 (take i xs) → v < 10000000000000000
digits_room i v xs few all value =
    let len = length-take i xs in
    rw value (digits_value_short own (take i xs) 16 all (omega (arith, len)))

-- digits before a byte, of which the first is not 0 where there are more
pub number_begins : (xs : List ℕ) (n v end : ℕ) → AllDigits 10 (take n xs) → v ≡ digits_value 10 (take n xs) → 0 < n → n < length xs → get_or xs n 0 ≡ end
    → (get_or xs 0 0 ≡ 48 → n ≤ 1) → v < 2 ^ 64 → BeginsWithWord xs (decimal v) end (take (length xs - (n + 1)) (drop (n + 1) xs))
number_begins xs n v end all value some lt last first small =
    let len : length (take n xs) ≡ n = length-take-le n xs (omega arith) in
    let is : decimal v ≡ take n xs =
    ap decimal value ∙ decimal-digits_value own (take n xs) all (rw len some) (λ z. one (first (sym (get_or-take n xs 0 0 some) ∙ z)) len) (rw value at small) in
    let cons : drop n xs ≡ end ∷ drop (n + 1) xs = rw add-one (drop-cons xs n 0 lt) ∙ ap (λ (b : ℕ). b ∷ drop (n + 1) xs) last in
    rw (rest_is xs n, is) (sym (take-append-drop n xs) ∙ ap (λ (t : List ℕ). take n xs ++ t) cons)
  where
    one : n ≤ 1 → length (take n xs) ≡ n → length (take n xs) ≡ 1
    one le len = omega (arith, some)

-- the first byte
pub first_byte : (xs : List ℕ) (b : ℕ) → 1 ≤ length xs → get_or xs 0 0 ≡ b → xs ≡ b ∷ take (length xs - 1) (drop 1 xs)
first_byte [] b some first = absurd (omega arith)
first_byte (x ∷ xs) b some first = grind (arith, take_all)

-- a digit before a line end
pub edge_begins : (text after rest : List ℕ) (d : ℕ) → text ≡ d ∷ after → after ≡ 10 ∷ rest → 48 ≤ d → d ≤ 53 → BeginsWithWord text (decimal (d - 48)) 10 rest
edge_begins text after rest d h k low high =
    let spelled = decimal_digit (d - 48) (omega arith) in
    let same : 48 + (d - 48) ≡ d = omega arith in
    rw (h, k, spelled) (ap (λ (b : ℕ). b ∷ 10 ∷ rest) (sym same))

-- ---- a line of corners

link : (a x y r : List ℕ) → x ++ r ≡ y → (a ++ (32 ∷ x)) ++ r ≡ a ++ (32 ∷ y)
link a x y r h = append_assoc a (32 ∷ x) r ∙ ap (λ (t : List ℕ). a ++ (32 ∷ t)) h

six : (a b c d e f r : List ℕ)
    → (a ++ (32 ∷ (b ++ (32 ∷ (c ++ (32 ∷ (d ++ (32 ∷ (e ++ (32 ∷ f)))))))))) ++ r
    ≡ a ++ (32 ∷ (b ++ (32 ∷ (c ++ (32 ∷ (d ++ (32 ∷ (e ++ (32 ∷ (f ++ r))))))))))
six a b c d e f r = grind (arith, link)

corners_spelled : (v : Version) (flat : Bool) (c : Corners) (rest : List ℕ)
    → cond flat 102 116 ∷ 32 ∷ (coordinate_word v c.x1
    ++ (32 ∷ (coordinate_word v c.y1
    ++ (32 ∷ (coordinate_word v c.x2
    ++ (32 ∷ (coordinate_word v c.y2
    ++ (32 ∷ (coordinate_word v c.x3 ++ (32 ∷ (coordinate_word v c.y3 ++ (10 ∷ rest))))))))))))
    ≡ spelling v (corner_line flat c) ++ (10 ∷ rest)
unfolding spelling words_of
corners_spelled v true c rest =
    cc (six (coordinate_word v c.x1) (coordinate_word v c.y1) (coordinate_word v c.x2) (coordinate_word v c.y2) (coordinate_word v c.x3) (coordinate_word v c.y3) (10 ∷ rest))
corners_spelled v false c rest =
    cc (six (coordinate_word v c.x1) (coordinate_word v c.y1) (coordinate_word v c.x2) (coordinate_word v c.y2) (coordinate_word v c.x3) (coordinate_word v c.y3) (10 ∷ rest))

-- a text of a letter, six coordinates, each after a space, a line end and a rest begins with a line of corners
pub corners_begin : (v : Version) (flat : Bool) (letter : ℕ) (text after fields : List ℕ) (c : Corners) (rest : List ℕ) → letter ≡ cond flat 102 116
    → text ≡ letter ∷ after → after ≡ 32 ∷ fields
    → fields ≡ coordinate_word v c.x1
    ++ (32 ∷ (coordinate_word v c.y1
    ++ (32 ∷ (coordinate_word v c.x2
    ++ (32 ∷ (coordinate_word v c.y2
    ++ (32 ∷ (coordinate_word v c.x3 ++ (32 ∷ (coordinate_word v c.y3 ++ (10 ∷ rest)))))))))))
    → BeginsWithWord text (spelling v (corner_line flat c)) 10 rest
corners_begin v flat letter text after fields c rest is h k all = rw (h, k, all, is) (corners_spelled v flat c rest)

corner_fits : (v : Version) (flat : Bool) (c : Corners) → CornersFit v c → LineFits v (corner_line flat c)
corner_fits v true c fits = fits
corner_fits v false c fits = fits

-- a line that begins the text was taken
spelled_line_taken : (v : Version) (text : List ℕ) (n : ℕ) (l : CertLine) (rest : List ℕ) → BeginsWithWord text (spelling v l) 10 rest → LineFits v l
    → ReadsLines v text n (l ∷ []) rest (n + 1)
unfolding text_of_lines
spelled_line_taken v text n l rest h fits =
    record { parts = h ∙ sym (append_assoc (spelling v l) (10 ∷ []) rest); fits = (fits, tt); next = refl }

-- a line of corners that begins the text was taken
pub corners_taken : (v : Version) (text : List ℕ) (n : ℕ) (flat : Bool) (c : Corners) (rest : List ℕ) → BeginsWithWord text (spelling v (corner_line flat c)) 10 rest
    → CornersFit v c → ReadsLines v text n (corner_line flat c ∷ []) rest (n + 1)
corners_taken v text n flat c rest h fits = spelled_line_taken v text n (corner_line flat c) rest h (corner_fits v flat c fits)

three : (a b c r : List ℕ) → (a ++ (32 ∷ (b ++ (32 ∷ c)))) ++ r ≡ a ++ (32 ∷ (b ++ (32 ∷ (c ++ r))))
three a b c r = grind (arith, link)

pair_spelled : (v : Version) (p : Separator) (rest : List ℕ)
    → 115 ∷ 32 ∷ (decimal p.i ++ (32 ∷ (decimal p.j ++ (32 ∷ (decimal p.k ++ (10 ∷ rest)))))) ≡ spelling v (PairLine p) ++ (10 ∷ rest)
unfolding spelling words_of
pair_spelled v p rest = cc (three (decimal p.i) (decimal p.j) (decimal p.k) (10 ∷ rest))

-- a text that begins with the letter, three numbers, each after a space, and a line end begins with a pair line, which was taken
pub pair_line_taken : (v : Version) (text : List ℕ) (n : ℕ) (p : Separator) (rest : List ℕ) → SeparatorFits p
    → text ≡ 115 ∷ 32 ∷ (decimal p.i ++ (32 ∷ (decimal p.j ++ (32 ∷ (decimal p.k ++ (10 ∷ rest))))))
    → ReadsLines v text n (PairLine p ∷ []) rest (n + 1)
pair_line_taken v text n p rest fits h = spelled_line_taken v text n (PairLine p) rest (h ∙ pair_spelled v p rest) fits

-- what comes after a word and its line end is shorter than the text that begins with them
pub shorter : (text : List ℕ) (w : List ℕ) (rest : List ℕ) → BeginsWithWord text w 10 rest → length rest + 1 ≤ length text
shorter text w rest h = grind (arith, length-append)
