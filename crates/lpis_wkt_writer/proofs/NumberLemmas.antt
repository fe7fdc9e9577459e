-- The text of a coordinate, as it is written.
use Rattle.std.proofs.Common.{◌≡◌, ◌<◌, ◌+◌, ◌/◌, ◌%◌, ◌^◌, ◌++◌, ◌∷◌, [], ℕ, suc, List, true, false, arith, sym, ap, ◌∙◌, append_assoc}
use Rattle.std.proofs.Common.{decimal, ℤ, pos, negsuc, nat_abs, int_le, true≢false, IsAscii}
use lib.Dec.{leb-zero}
use Rattle.std.proofs.lemmas.Fmt.{IsAscii-decimal}
use Rattle.std.proofs.lemmas.Str.{IsAscii-append}
use Rattle.std.proofs.lemmas.Str.Ascii.{IsAscii-cons, IsAscii-nil}
use Rattle.lpis_points.specs.declared.point.Point.{Point}
use Rattle.lpis_wkt_writer.specs.Text.{number_text, polygon_point_text}
use Rattle.lpis_wkt_writer.proofs.ReadingLemmas.{size-small}
use Rattle.lpis_points.specs.Decimals.{last_digits}

-- a number of millimetres in metres, and a text behind it
abbrev size_text : ℕ → List ℕ → List ℕ
size_text n rest = decimal (n / 1000) ++ (46 ∷ (last_digits 3 n ++ rest))

joined : (n : ℕ) (rest : List ℕ) → size_text n rest ≡ (decimal (n / 1000) ++ (46 ∷ last_digits 3 n)) ++ rest
joined n rest = sym (append_assoc (decimal (n / 1000)) (46 ∷ last_digits 3 n) rest)

-- the text of a coordinate that is not below zero
pub plain-text : (z : ℤ) (n : ℕ) (rest : List ℕ) → int_le (pos 0) z ≡ true → n ≡ nat_abs z → size_text n rest ≡ number_text z ++ rest
unfolding number_text
plain-text (pos m) n rest h e = rw e (joined m rest)
plain-text (negsuc m) n rest h e = absurd (true≢false (sym h))

-- the text of a coordinate below zero
pub minus-text : (z : ℤ) (n : ℕ) (rest : List ℕ) → int_le (pos 0) z ≡ false → n ≡ nat_abs z → 45 ∷ size_text n rest ≡ number_text z ++ rest
unfolding number_text
minus-text (pos m) n rest h e = absurd (true≢false (sym (leb-zero m) ∙ h))
minus-text (negsuc m) n rest h e = rw e (ap (λ (t : List ℕ). 45 ∷ t) (joined (suc m) rest))

-- its bytes are ASCII
decimals-ascii : (n : ℕ) → IsAscii (last_digits 3 n)
decimals-ascii n =
    IsAscii-cons (48 + n / 10 / 10 % 10) ((48 + n / 10 % 10) ∷ (48 + n % 10) ∷ []) (omega arith)
    (IsAscii-cons (48 + n / 10 % 10) ((48 + n % 10) ∷ []) (omega arith) (IsAscii-cons (48 + n % 10) [] (omega arith) IsAscii-nil))

size-ascii : (n : ℕ) → n < 2 ^ 64 → IsAscii (decimal (n / 1000) ++ (46 ∷ last_digits 3 n))
size-ascii n h = IsAscii-append (decimal (n / 1000)) (46 ∷ last_digits 3 n) (IsAscii-decimal (n / 1000) (omega arith)) (IsAscii-cons 46 (last_digits 3 n) (omega arith) (decimals-ascii n))

number-ascii : (z : ℤ) → nat_abs z < 2 ^ 64 → IsAscii (number_text z)
unfolding number_text
number-ascii (pos n) h = size-ascii n h
number-ascii (negsuc n) h = IsAscii-cons 45 (decimal (suc n / 1000) ++ (46 ∷ last_digits 3 (suc n))) (omega arith) (size-ascii (suc n) h)

-- the bytes of a point's text are ASCII
pub point-ascii : (p : Point) → IsAscii (polygon_point_text p)
point-ascii p = IsAscii-append (number_text p.x) (32 ∷ number_text p.y) (number-ascii p.x (omega (arith, size-small p.x p.x_in_range)))
    (IsAscii-cons 32 (number_text p.y) (omega arith) (number-ascii p.y (omega (arith, size-small p.y p.y_in_range))))
