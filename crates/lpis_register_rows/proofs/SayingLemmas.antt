-- A history put together from rows is what they say.
use Rattle.std.proofs.Common.{◌≡◌, ◌∙◌, ◌≤◌, refl, sym, ap, subst, arith, ℕ, zero, suc, ℤ, pos, List, [], ◌∷◌, Bool, true, false, cond, length, map, IsPermutation, ◌&&◌, ◌||◌, All, filter}
use Rattle.lpis_register_rows.proofs.Common.{AllByRecursion, list_any, recursion_from_All, is_id, same_id, Entry, IsLawful, RowsFit, entry_at, holds, in-history, same-exact, KnownSpan, KnownLine}
use Rattle.lpis_register_rows.proofs.Common.{Content}
use Rattle.lpis_register_rows.proofs.Common.{StoredSpan, IsKeptHistory, IsSpanRow, AreSpansOf, HasHistoryBySpans, last_of_years, lineage_lines}
use Rattle.lpis_register_rows.proofs.Common.{only_format, years_of, covers, Line, Mark, SetsAre, known_of}
use Rattle.lpis_register_rows.proofs.Common.{line_in, marks_in, marks_of, span_in}
use Rattle.lpis_register_rows.proofs.MarkLemmas.{lines-in, marks-in}

-- what a test passes with another it passes alone
any-left : {A : Type 0} (p q : A → Bool) (xs : List A) → list_any (λ x. p x && q x) xs ≡ true → list_any p xs ≡ true
any-left p q [] e = cc e
any-left p q (x ∷ xs) e = by (any-left p q xs) (p x) refl e where
  by : (list_any (λ x. p x && q x) xs ≡ true → list_any p xs ≡ true) → (b : Bool) → b ≡ p x → ((b && q x) || list_any (λ x. p x && q x) xs) ≡ true → (p x || list_any p xs) ≡ true
  by ih true eb h = ap (λ (b : Bool). b || list_any p xs) (sym eb)
  by ih false eb h = ap (λ (b : Bool). b || list_any p xs) (sym eb) ∙ ih h

-- the identifier of a span is one
any-id : (spans : List KnownSpan) (id : List ℕ) → AllByRecursion (λ s. is_id s.id ≡ true) spans → list_any (λ s. same_id id s.id) (map span_in spans) ≡ true → is_id id ≡ true
any-id [] id all e = cc e
any-id (s ∷ ss) id all e = by (any-id ss id all.1) (same_id id s.id) refl e where
  by : (list_any (λ s. same_id id s.id) (map span_in ss) ≡ true → is_id id ≡ true) → (b : Bool) → b ≡ same_id id s.id → (b || list_any (λ s. same_id id s.id) (map span_in ss)) ≡ true → is_id id ≡ true
  by ih true eb h = ap is_id (same-exact id s.id (sym eb)) ∙ all.0
  by ih false eb h = ih h

-- an identifier has as many rows of spans as it has spans that were read
pub count-map : (spans : List KnownSpan) (id : List ℕ) → length (filter (λ s. same_id id s.id) (map span_in spans)) ≡ length (filter (λ s. same_id id s.id) spans)
count-map [] id = refl
count-map (s ∷ ss) id = by (same_id id s.id) (count-map ss id) where
  by : (b : Bool) → length (filter (λ s. same_id id s.id) (map span_in ss)) ≡ length (filter (λ s. same_id id s.id) ss)
      → length (cond b (span_in s ∷ filter (λ s. same_id id s.id) (map span_in ss))
      (filter (λ s. same_id id s.id) (map span_in ss))) ≡ length
      (cond b (s ∷ filter (λ s. same_id id s.id) ss) (filter (λ s. same_id id s.id) ss))
  by true e = ap suc e
  by false e = e

right-map : (h : List Entry) (spans : List KnownSpan) → AllByRecursion (λ s. IsSpanRow h (span_in s)) spans → AllByRecursion (IsSpanRow h) (map span_in spans)
right-map h [] all = tt
right-map h (s ∷ ss) all = (all.0, right-map h ss all.1)

-- the first year of a list, 0 where there is none or it is negative
abbrev pub first_of : List ℤ → ℕ
first_of (pos n ∷ l) = n
first_of _ = 0

-- the years after the first
abbrev pub later_years : List ℤ → List ℤ
later_years [] = []
later_years (z ∷ l) = l

-- years that a type holds
small-years : (h : List Entry) (ys : List ℕ) → years_of h ≡ map (λ y. pos y) ys → AllByRecursion (λ y. y ≤ last_of_years) ys → (i : ℕ) → (entry_at h i).year ≤ last_of_years
small-years [] ys e all i = omega arith
small-years (x ∷ h) [] e all i = absurd cc
small-years (x ∷ h) (y ∷ ys) e all zero = let s : x.year ≡ y = ap (λ (l : List ℤ). first_of l) e in let m = all.0 in omega (arith, s, m)
small-years (x ∷ h) (y ∷ ys) e all (suc i) = small-years h ys (ap later_years e) all.1 i

-- a history put together from well-formed identifiers is one that tables may say
pub kept-said : (h : List Entry) (years : List ℕ) (spans : List KnownSpan) → IsLawful h → RowsFit h → AllByRecursion (λ y. y ≤ last_of_years) years
    → All (λ s. is_id s.id ≡ true) spans → years_of h ≡ map (λ y. pos y) years → SetsAre (map span_in spans) h → IsKeptHistory h
kept-said h years spans law fit small ids years-are sets = record {
  lawful = law;
  fits = fit;
  ids = λ id i held. any-id spans id (recursion_from_All (λ s. is_id s.id ≡ true) spans ids)
      (any-left (λ (s : StoredSpan). same_id id s.id) (λ (s : StoredSpan). covers s (entry_at h i).year) (map span_in spans)
      (sym (sets i (in-history h i id held) id) ∙ held));
  years = small-years h years years-are small;
}

-- the lines and the marks of a history whose rows are these
pub told-lines-are : (ls : List Line) (h : List Entry) (lines : List KnownLine) → IsPermutation ls (map line_in lines) → known_of h ≡ lines → IsPermutation ls (lineage_lines h)
told-lines-are ls h lines p e = subst (IsPermutation ls) (ap (λ (ks : List KnownLine). map line_in ks) (sym e) ∙ lines-in h) p

-- the marks of lines that are a history's, in any order, are the history's marks
pub told-marks-are : (ms : List Mark) (h : List Entry) (lines : List KnownLine) → IsPermutation ms (marks_in lines) → known_of h ≡ lines → IsPermutation ms (marks_of h)
told-marks-are ms h lines p e = subst (IsPermutation ms) (ap marks_in (sym e) ∙ marks-in h) p

-- the history that rows say
pub rows-say-history : (version : ℕ) (ms : List Mark) (c : Content) (h : List Entry) (years : List ℕ) (spans : List KnownSpan) (lines : List KnownLine) → IsLawful h → RowsFit h
    → AllByRecursion (λ y. y ≤ last_of_years) years → c.formats ≡ only_format version
    → IsPermutation c.years (map (λ y. pos y) years) → map span_in spans ≡ c.spans → All (λ s. is_id s.id ≡ true) spans → ((id : List ℕ) → length (filter (λ s. same_id id s.id) spans) ≤ 1)
    → IsPermutation c.lines (map line_in lines) → years_of h ≡ map (λ y. pos y) years → SetsAre (map span_in spans) h
    → IsPermutation ms (marks_in lines) → known_of h ≡ lines → All (λ s. IsSpanRow h (span_in s)) spans → HasHistoryBySpans version ms c h
rows-say-history version ms c h years spans lines law fit small formats ys ss ids once ls years-are sets marks lines-are right = record {
  kept = kept-said h years spans law fit small ids years-are sets;
  formats_are = formats;
  years_are = subst (IsPermutation c.years) (sym years-are) ys;
  spans_are = subst (λ (l : List StoredSpan). AreSpansOf l h) ss (record {
    once = λ id. let e = count-map spans id in let o = once id in omega (arith, e, o);
    right = right-map h spans (recursion_from_All (λ s. IsSpanRow h (span_in s)) spans right);
    whole = spanned;
  });
  lines_are = told-lines-are c.lines h lines ls lines-are;
  marks_are = told-marks-are ms h lines marks lines-are;
} where
  spanned : (id : List ℕ) (i : ℕ) → holds h i id ≡ true → list_any (λ s. same_id id s.id) (map span_in spans) ≡ true
  spanned id i held = any-left (λ (s : StoredSpan). same_id id s.id) (λ (s : StoredSpan). covers s (entry_at h i).year) (map span_in spans) (sym (sets i (in-history h i id held) id) ∙ held)
