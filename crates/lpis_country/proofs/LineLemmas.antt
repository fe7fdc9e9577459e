-- A line has one text.
use Rattle.std.proofs.Common.{◌≡◌, ℕ, zero, suc, ◌<◌, ◌≤◌, Bool, true, false, cond, not, ◌&&◌, List, [], ◌∷◌, ◌++◌, length, take, drop, Option, Some, None}
use Rattle.std.proofs.Common.{refl, sym, ap, subst, ◌∙◌, arith, nat_le, ℤ, pos, negsuc, codes, decimal, option_map, IsUtf8, slice_index, All}
use Rattle.std.proofs.lemmas.Bool.{and_parts}
use Rattle.std.proofs.lemmas.Bool.Decides.{nat_tests}
use Rattle.std.proofs.lemmas.Int.{ints}
use Rattle.std.proofs.lemmas.Slice.Eq.{bytes_eq-Decides}
use Rattle.std.proofs.lemmas.Fmt.{decimal_is_IsNumeral}
use Rattle.std.proofs.lemmas.List.{take-append-drop}
use Rattle.std.proofs.lemmas.List.Splits.{slice_split_at}
use Rattle.std.proofs.lemmas.List.Elements.{All-append, All-cons, All-nil}
use Rattle.std.proofs.lemmas.Str.{IsUtf8-from_ascii}
use Rattle.std.proofs.lemmas.Str.Parse.{digit_from_value}
use Rattle.std.specs.Fmt.{signed_decimal}
use Rattle.std.specs.List.{list_all}
use Rattle.std.specs.Str.Parse.{AllDigits}
use Rattle.lpis_points.specs.Range.{IsInRange}
use Rattle.lpis_country.specs.Limits.{longest_name}
use Rattle.lpis_country.specs.CountryText.{TreeLine, x_line, y_line, region_line, tree_line_text, TreeLineFits, is_name_byte, is_region_name}
use Rattle.lpis_country.specs.Faults.{begins_with, coordinate_in, name_in, tree_line, is_line_feed, plan_lines}
use Rattle.lpis_country.proofs.NumberLemmas.{chosen_by_test, coordinate_takes, coordinate_again}

-- ---- what is written is read

-- the text of a line that fits is read to this line
pub line_again : (l : TreeLine) → TreeLineFits l → tree_line (tree_line_text l) ≡ Some l
unfolding tree_line
line_again (x_line c) fits = rw (coordinate_again c fits) refl
line_again (y_line c) fits = rw (coordinate_again c fits) refl
line_again (region_line name) fits = rw fits refl

-- ---- what is read was written so

begun : (line start : List ℕ) → begins_with line start ≡ true → line ≡ start ++ drop (length start) line
begun line start h =
    let front = (bytes_eq-Decides (take (length start) line) start).0 h in
    sym (take-append-drop (length start) line) ∙ ap (λ (w : List ℕ). w ++ drop (length start) line) front

mapped : {A B : Type 0} (f : A → B) (o : Option A) (y : B) → option_map f o ≡ Some y → (x : A) × (o ≡ Some x) × (f x ≡ y)
mapped f None y h = absurd cc
mapped f (Some x) y h = (x, refl, cc h)

cut_takes : (make : ℤ → TreeLine) (start line : List ℕ) (l : TreeLine) → begins_with line start ≡ true → ((z : ℤ) → tree_line_text (make z) ≡ start ++ signed_decimal z)
    → ((z : ℤ) → IsInRange z → TreeLineFits (make z)) → option_map make (coordinate_in (drop (length start) line)) ≡ Some l → (line ≡ tree_line_text l) × TreeLineFits l
cut_takes make start line l b text fits h =
    let m = mapped make (coordinate_in (drop (length start) line)) l h in
    let t = coordinate_takes (drop (length start) line) m.0 m.1 in
    subst (λ (k : TreeLine). (line ≡ tree_line_text k) × TreeLineFits k) m.2
    (begun line start b ∙ ap (λ (w : List ℕ). start ++ w) t.0 ∙ sym (text m.0), fits m.0 t.1)

region_takes : (line : List ℕ) (l : TreeLine) → begins_with line (codes "region ") ≡ true → option_map region_line (name_in (drop 7 line)) ≡ Some l → (line ≡ tree_line_text l) × TreeLineFits l
region_takes line l b h =
    let m = mapped region_line (name_in (drop 7 line)) l h in
    let c = chosen_by_test (is_region_name (drop 7 line)) (drop 7 line) m.0 m.1 in
    subst (λ (k : TreeLine). (line ≡ tree_line_text k) × TreeLineFits k) m.2
    (subst (λ (w : List ℕ). (line ≡ codes "region " ++ w) × (is_region_name w ≡ true)) c.1 (begun line (codes "region ") b, c.0))

-- bytes that are read to a line are the text of this line, which fits
pub line_takes : (line : List ℕ) (l : TreeLine) → tree_line line ≡ Some l → (line ≡ tree_line_text l) × TreeLineFits l
unfolding tree_line
line_takes line l h = by_x (begins_with line (codes "x ")) refl h
  where
    by_region : (b : Bool) → begins_with line (codes "region ") ≡ b → cond b (option_map region_line (name_in (drop 7 line))) None ≡ Some l → (line ≡ tree_line_text l) × TreeLineFits l
    by_region true e h = region_takes line l e h
    by_region false e h = absurd cc

    by_y : (b : Bool) → begins_with line (codes "y ") ≡ b → cond b (option_map y_line (coordinate_in (drop 2 line)))
        (cond (begins_with line (codes "region ")) (option_map region_line (name_in (drop 7 line))) None) ≡ Some l → (line ≡ tree_line_text l) × TreeLineFits l
    by_y true e h = cut_takes y_line (codes "y ") line l e (λ z. refl) (λ z r. r) h
    by_y false e h = by_region (begins_with line (codes "region ")) refl h

    by_x : (b : Bool) → begins_with line (codes "x ") ≡ b → cond b (option_map x_line (coordinate_in (drop 2 line)))
        (cond (begins_with line (codes "y ")) (option_map y_line (coordinate_in (drop 2 line)))
        (cond (begins_with line (codes "region ")) (option_map region_line (name_in (drop 7 line))) None)) ≡ Some l → (line ≡ tree_line_text l) × TreeLineFits l
    by_x true e h = cut_takes x_line (codes "x ") line l e (λ z. refl) (λ z r. r) h
    by_x false e h = by_y (begins_with line (codes "y ")) refl h

-- ---- no line has a line feed in it

-- the byte is no line feed
abbrev pub NoFeed : ℕ → Type 0
NoFeed b = is_line_feed b ≡ false

digits_end : (ds : List ℕ) → AllDigits 10 ds → All NoFeed ds
digits_end [] h = All-nil NoFeed
digits_end (d ∷ ds) h = All-cons NoFeed d ds (other d (digit_from_value d h.0)) (digits_end ds h.1)
  where
    other : (d : ℕ) → (48 ≤ d) × (d ≤ 57) → is_line_feed d ≡ false
    other d h = grind (arith, nat_tests)

number_ends : (z : ℤ) → IsInRange z → All NoFeed (signed_decimal z)
number_ends (pos n) h = digits_end (decimal n) (decimal_is_IsNumeral n (omega (arith, ints, h.1))).0.1
number_ends (negsuc n) h = All-cons NoFeed 45 (decimal (suc n)) refl (digits_end (decimal (suc n)) (decimal_is_IsNumeral (suc n) (omega (arith, ints, h.0))).0.1)

name_ends : (w : List ℕ) → list_all is_name_byte w ≡ true → All NoFeed w
name_ends [] h = All-nil NoFeed
name_ends (b ∷ w) h =
    let t = and_parts (is_name_byte b) (list_all is_name_byte w) h in
    All-cons NoFeed b w (other b t.0) (name_ends w t.1)
  where
    other : (b : ℕ) → is_name_byte b ≡ true → is_line_feed b ≡ false
    other b h = grind (arith, nat_tests)

name_bytes : (w : List ℕ) → is_region_name w ≡ true → list_all is_name_byte w ≡ true
name_bytes w h = (and_parts (nat_le 1 (length w) && nat_le (length w) longest_name) (list_all is_name_byte w) h).1

word_ends : (w : List ℕ) → list_all (λ b. not (is_line_feed b)) w ≡ true → All NoFeed w
word_ends [] h = All-nil NoFeed
word_ends (b ∷ w) h =
    let t = and_parts (not (is_line_feed b)) (list_all (λ b. not (is_line_feed b)) w) h in
    All-cons NoFeed b w (off (is_line_feed b) t.0) (word_ends w t.1)
  where
    off : (t : Bool) → not t ≡ true → t ≡ false
    off true h = absurd cc
    off false h = refl

line_ends : (l : TreeLine) → TreeLineFits l → All NoFeed (tree_line_text l)
line_ends (x_line c) fits = All-append NoFeed (codes "x ") (signed_decimal c) (word_ends (codes "x ") refl) (number_ends c fits)
line_ends (y_line c) fits = All-append NoFeed (codes "y ") (signed_decimal c) (word_ends (codes "y ") refl) (number_ends c fits)
line_ends (region_line name) fits = All-append NoFeed (codes "region ") name (word_ends (codes "region ") refl) (name_ends name (name_bytes name fits))

-- the lines of a text that begins with a line
pub lines_from : (l : TreeLine) (rest : List ℕ) → TreeLineFits l → plan_lines (tree_line_text l ++ (10 ∷ rest)) ≡ tree_line_text l ∷ plan_lines rest
lines_from l rest fits = slice_split_at is_line_feed (tree_line_text l) 10 rest (line_ends l fits) refl

-- ---- a name is text

name_ascii : (w : List ℕ) → list_all is_name_byte w ≡ true → (i : ℕ) → slice_index w i < 128
name_ascii [] h i = omega arith
name_ascii (b ∷ w) h zero = small b (and_parts (is_name_byte b) _ h).0
  where
    small : (b : ℕ) → is_name_byte b ≡ true → b < 128
    small b h = grind (arith, nat_tests)
name_ascii (b ∷ w) h (suc i) = name_ascii w (and_parts (is_name_byte b) _ h).1 i

-- the name of a region is UTF-8
pub name_utf8 : (w : List ℕ) → is_region_name w ≡ true → IsUtf8 w
name_utf8 w h = IsUtf8-from_ascii w (name_ascii w (name_bytes w h))
