-- The words of a line.
use Rattle.std.proofs.Common.{◌≡◌, ℕ, suc, ◌<◌, ◌≤◌, Bool, true, false, not, ◌&&◌, List, [], ◌∷◌, ◌++◌, length, refl, ap, ◌∙◌, arith, ℤ, pos, negsuc, nat_abs}
use Rattle.std.proofs.Common.{codes, decimal}
use Rattle.lpis_cert.proofs.Common.{and_parts, nat_tests, onto_first, list_any, join_with_byte, AllByRecursion, is_id, Version}
use Rattle.lpis_cert.proofs.Common.{greatest_count, number_margin, Kind, Piece, Flat}
use Rattle.lpis_cert.proofs.Common.{Parcel, Exact, Pairs, Pair, End, Corners, CertLine, PieceLine, TriangleLine, FlatLine, ParcelLine, ExactLine, PairsLine, PairLine, EndLine}
use Rattle.lpis_cert.proofs.Common.{words_of, spelling, CoordinateFits, CornersFit, LineFits}
use Rattle.lpis_cert.proofs.Common.{is_gap, is_empty, words, is_lf, lines, line_kind, first_line}
use Rattle.lpis_cert.specs.CertText.{side}
use Rattle.std.proofs.lemmas.Fmt.{decimal_is_IsNumeral}
use Rattle.std.proofs.lemmas.Str.Parse.{digit_from_value}
use Rattle.std.specs.List.{slice_split, list_all}
use Rattle.std.specs.Str.Parse.{AllDigits}
use Rattle.lpis_tables.specs.Ids.{is_id_byte}
use Rattle.lpis_cert.specs.declared.kind.Kind.TheVariants.{Triangle}
use Rattle.lpis_cert.specs.declared.version.Version.TheVariants.{One, Two}
use Rattle.std.specs.Fmt.{signed_decimal}
use Rattle.lpis_cert.specs.CertText.{coordinate_word, corner_words}
use Rattle.lpis_cert.specs.Versions.{units}
use Rattle.lpis_cert.proofs.NumberLemmas.{greatest_small}

-- ---- bytes of words

-- neither a space nor a line end
abbrev pub IsPlain : List ℕ → Type 0
IsPlain w = AllByRecursion (λ b. (is_gap b ≡ false) × (is_lf b ≡ false)) w

-- a word, in a text
pub record IsWordText (w : List ℕ) : Type 0 where
  pub some : is_empty w ≡ false
  pub plain : IsPlain w

digits_plain : (ds : List ℕ) → AllDigits 10 ds → IsPlain ds
digits_plain [] h = tt
digits_plain (d ∷ ds) h = grind (arith, nat_tests, digits_plain ds h.1, digit_from_value)

not-empty : (w : List ℕ) → 0 < length w → is_empty w ≡ false
not-empty [] h = absurd (omega arith)
not-empty (b ∷ bs) h = refl

decimal_word : (n : ℕ) → n ≤ number_margin → IsWordText (decimal n)
decimal_word n le = let d = decimal_is_IsNumeral n (omega arith) in record { some = not-empty (decimal n) d.0.0; plain = digits_plain (decimal n) d.0.1 }

signed_word : (z : ℤ) → nat_abs z ≤ number_margin → IsWordText (signed_decimal z)
signed_word (pos n) le = decimal_word n le
signed_word (negsuc n) le = let d = decimal_word (suc n) le in record { some = refl; plain = ((refl, refl), d.plain) }

written_word : (v : Version) (z : ℤ) → CoordinateFits v z → IsWordText (coordinate_word v z)
written_word v z fits = let small = greatest_small v in let few = fits.few in signed_word (units v z) (omega arith)

id_plain : (bs : List ℕ) → list_all is_id_byte bs ≡ true → IsPlain bs
id_plain [] h = tt
id_plain (b ∷ bs) h = let t = and_parts (is_id_byte b) (list_all is_id_byte bs) h in (plain b t.0, id_plain bs t.1)
  where
    plain : (d : ℕ) → is_id_byte d ≡ true → (is_gap d ≡ false) × (is_lf d ≡ false)
    plain d r = (grind (arith, nat_tests), grind (arith, nat_tests))

id_word : (bs : List ℕ) → is_id bs ≡ true → IsWordText bs
id_word bs h = grind (arith, nat_tests, and_parts, not-empty, id_plain)

-- ---- cutting what was joined

-- elements that fail the test, and then one that passes, are cut off as the first part; the rest is cut on
pub first_part_cut : (p : ℕ → Bool) (w rest : List ℕ) → AllByRecursion (λ b. p b ≡ false) w → (c : ℕ) → p c ≡ true
    → slice_split p (w ++ (c ∷ rest)) ≡ w ∷ slice_split p rest
first_part_cut p [] rest h c at = rw at refl
first_part_cut p (b ∷ w) rest h c at = let off = h.0 in rw off (ap (onto_first b) (first_part_cut p w rest h.1 c at))

only_part : (p : ℕ → Bool) (w : List ℕ) → AllByRecursion (λ b. p b ≡ false) w → slice_split p w ≡ w ∷ []
only_part p [] h = refl
only_part p (b ∷ w) h = let off = h.0 in rw off (ap (onto_first b) (only_part p w h.1))

no_gap : (w : List ℕ) → IsPlain w → AllByRecursion (λ b. is_gap b ≡ false) w
no_gap [] h = tt
no_gap (b ∷ w) h = (h.0.0, no_gap w h.1)

no_end : (w : List ℕ) → IsPlain w → AllByRecursion (λ b. is_lf b ≡ false) w
no_end [] h = tt
no_end (b ∷ w) h = (h.0.1, no_end w h.1)

words_again : (w : List ℕ) (ws : List (List ℕ)) → IsPlain w → AllByRecursion IsWordText ws → words (join_with_byte 32 (w ∷ ws)) ≡ w ∷ ws
words_again w [] h hs = only_part is_gap w (no_gap w h)
words_again w (v ∷ vs) h hs =
    first_part_cut is_gap w (join_with_byte 32 (v ∷ vs)) (no_gap w h) 32 refl ∙ ap (λ (x : List (List ℕ)). w ∷ x) (words_again v vs hs.0.plain hs.1)

ends-append : (v w : List ℕ) → AllByRecursion (λ b. is_lf b ≡ false) v → AllByRecursion (λ b. is_lf b ≡ false) w
    → AllByRecursion (λ b. is_lf b ≡ false) (v ++ w)
ends-append [] w h k = k
ends-append (b ∷ v) w h k = (h.0, ends-append v w h.1 k)

ends_joined : (w : List ℕ) (ws : List (List ℕ)) → IsPlain w → AllByRecursion IsWordText ws → AllByRecursion (λ b. is_lf b ≡ false) (join_with_byte 32 (w ∷ ws))
ends_joined w [] h hs = no_end w h
ends_joined w (v ∷ vs) h hs = grind (arith, ends_joined v vs hs.0.plain hs.1, ends-append, no_end)

-- among words of a text none is empty
pub none_empty : (ws : List (List ℕ)) → AllByRecursion IsWordText ws → list_any is_empty ws ≡ false
none_empty [] h = refl
none_empty (w ∷ ws) h = let e = h.0.some in rw e (none_empty ws h.1)

-- ---- the words of a line

-- the first word of a line, by its kind
abbrev pub kind_word : Kind → List ℕ
kind_word Piece = codes "piece"
kind_word Triangle = codes "t"
kind_word Flat = codes "f"
kind_word Parcel = codes "parcel"
kind_word Exact = codes "exact"
kind_word Pairs = codes "pairs"
kind_word Pair = codes "s"
kind_word End = codes "end"

-- the words of a line after its first
abbrev pub fields : Version → CertLine → List (List ℕ)
fields v (PieceLine id t f) = id ∷ decimal t ∷ decimal f ∷ []
fields v (TriangleLine c) = corner_words v c
fields v (FlatLine c) = corner_words v c
fields v (ParcelLine id f) = id ∷ decimal f ∷ []
fields v (ExactLine m id f) = side m ∷ id ∷ decimal f ∷ []
fields v (PairsLine n) = decimal n ∷ []
fields v (PairLine p) = decimal p.i ∷ decimal p.j ∷ decimal p.k ∷ []
fields v EndLine = []

-- the words of a line are that of its kind and then its fields
pub words_are : (v : Version) (l : CertLine) → words_of v l ≡ kind_word (line_kind l) ∷ fields v l
unfolding words_of
words_are v EndLine = refl
words_are v _ = refl

corner_fields : (v : Version) (c : Corners) → CornersFit v c → AllByRecursion IsWordText (corner_words v c)
corner_fields v c fits = (
  written_word v c.x1 fits.x1,
  (
    written_word v c.y1 fits.y1,
    (written_word v c.x2 fits.x2, (written_word v c.y2 fits.y2, (written_word v c.x3 fits.x3, (written_word v c.y3 fits.y3, tt)))),
  ),
)

count_word : (n : ℕ) → n ≤ greatest_count → IsWordText (decimal n)
count_word n le = decimal_word n (omega arith)

plain_codes : (w : List ℕ) → list_all (λ b. not (is_gap b) && not (is_lf b)) w ≡ true → IsPlain w
plain_codes [] h = tt
plain_codes (b ∷ w) h =
    let t = and_parts (not (is_gap b) && not (is_lf b)) (list_all (λ b. not (is_gap b) && not (is_lf b)) w) h in
    let u = and_parts (not (is_gap b)) (not (is_lf b)) t.0 in
    ((off (is_gap b) u.0, off (is_lf b) u.1), plain_codes w t.1)
  where
    off : (b : Bool) → not b ≡ true → b ≡ false
    off true h = absurd cc
    off false h = refl

side_word : (m : Bool) → IsWordText (side m)
side_word false = record { some = refl; plain = plain_codes (codes "split") refl }
side_word true = record { some = refl; plain = plain_codes (codes "merge") refl }

-- the fields of a line that has a text are words: not empty, and without a space or a line end
pub field_words : (v : Version) (l : CertLine) → LineFits v l → AllByRecursion IsWordText (fields v l)
field_words v (PieceLine id t f) fits = (id_word id fits.0, (count_word t fits.1, (count_word f fits.2, tt)))
field_words v (TriangleLine c) fits = corner_fields v c fits
field_words v (FlatLine c) fits = corner_fields v c fits
field_words v (ParcelLine id f) fits = (id_word id fits.0, (count_word f fits.1, tt))
field_words v (ExactLine m id f) fits = (side_word m, (id_word id fits.1, (count_word f fits.2, tt)))
field_words v (PairsLine n) fits = (count_word n fits, tt)
field_words v (PairLine p) fits = (count_word p.i fits.i, (count_word p.j fits.j, (decimal_word p.k (omega (arith, fits.k)), tt)))
field_words v EndLine fits = tt

kind_plain : (k : Kind) → IsPlain (kind_word k)
kind_plain Piece = plain_codes (codes "piece") refl
kind_plain Triangle = plain_codes (codes "t") refl
kind_plain Flat = plain_codes (codes "f") refl
kind_plain Parcel = plain_codes (codes "parcel") refl
kind_plain Exact = plain_codes (codes "exact") refl
kind_plain Pairs = plain_codes (codes "pairs") refl
kind_plain Pair = plain_codes (codes "s") refl
kind_plain End = plain_codes (codes "end") refl

-- cut at its spaces, the spelling of a line that has a text gives the word of its kind and its fields
pub spelling_words : (v : Version) (l : CertLine) → LineFits v l → words (spelling v l) ≡ kind_word (line_kind l) ∷ fields v l
unfolding spelling
spelling_words v l fits = grind (arith, words_are, words_again, kind_word, kind_plain, field_words)

spelling_ends : (v : Version) (l : CertLine) → LineFits v l → AllByRecursion (λ b. is_lf b ≡ false) (spelling v l)
unfolding spelling
spelling_ends v l fits = grind (arith, words_are, ends_joined, kind_word, kind_plain, field_words)

-- the lines of a text that begins with a line
pub lines_from : (v : Version) (l : CertLine) (rest : List ℕ) → LineFits v l → lines (spelling v l ++ (10 ∷ rest)) ≡ spelling v l ∷ lines rest
lines_from v l rest fits = first_part_cut is_lf (spelling v l) rest (spelling_ends v l fits) 10 refl

-- the lines of a text that begins with a version's first line
pub lines_named : (v : Version) (rest : List ℕ) → lines (first_line v ++ (10 ∷ rest)) ≡ first_line v ∷ lines rest
lines_named One rest = refl
lines_named Two rest = refl
