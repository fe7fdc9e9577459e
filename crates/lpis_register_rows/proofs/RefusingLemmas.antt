-- What rows that say a history have: what they are refused for otherwise.
use Rattle.std.proofs.Common.{◌≡◌, ◌∙◌, ◌≤◌, ◌+◌, ◌⊎◌, inl, inr, refl, sym, ap, subst, arith, ℕ, zero, suc, ℤ, pos, List, [], ◌∷◌, true, Option, None, Some, length, map, IsPermutation, is_some}
use Rattle.std.proofs.Common.{IsSorted, All, filter, nat_cmp}
use Rattle.lpis_register_rows.proofs.Common.{AllByRecursion, list_any, All-from_recursion, All-permutation, IsPermutation-sym, or_left, or_right, is_id, same_id, Entry, Row, entry_at, names_successor}
use Rattle.lpis_register_rows.proofs.Common.{span_of}
use Rattle.lpis_register_rows.proofs.Common.{same-refl, above-zero, KnownLine, KnownSpan, Content, Line, StoredSpan, lines_from, successor_text, IsKeptHistory, IsSameHistory, IsSpanRow, AreSpansOf}
use Rattle.lpis_register_rows.proofs.Common.{HasHistoryBySpans, lineage_lines}
use Rattle.lpis_register_rows.proofs.Common.{years_of, HasKnownHistory, Mark, SetsAre, known_of, span_in}
use Rattle.lpis_lineage.specs.declared.span.Span.{Span as Years}
use Rattle.lpis_lineage.specs.Lineage.{is_row_of, is_this}
use Rattle.lpis_register_rows.specs.private.Known.{IsReadable, IsReleaseYear}
use Rattle.lpis_register_rows.proofs.AscendingLemmas.{all-append, all-map}
use Rattle.lpis_register_rows.proofs.FrontLemmas.{span-same}
use Rattle.lpis_register_rows.proofs.OneHistoryLemmas.{sets-told}
use Rattle.lpis_register_rows.proofs.PublishingLemmas.{span-in-release}
use Rattle.lpis_register_rows.proofs.SayingLemmas.{count-map}
use Rattle.lpis_register_rows.proofs.SpanRowLemmas.{spans-moved}
use Rattle.lpis_register_rows.proofs.SortingLemmas.{sorted-years}
use Rattle.lpis_register_rows.proofs.YearLemmas.{all-entries, years-ascend}
use Rattle.lpis_register_rows.specs.Histories.{shown_span}

all-moved-from : {A : Type 0} (P : A → Type 0) (xs ys : List A) → IsPermutation xs ys → AllByRecursion P ys → All P xs
all-moved-from P xs ys p all = All-permutation P ys xs (IsPermutation-sym xs ys p) (All-from_recursion P ys all)

-- ---- years

all-years : (h : List Entry) → AllByRecursion (λ e. IsReleaseYear (pos e.year)) h → AllByRecursion IsReleaseYear (years_of h)
all-years [] all = tt
all-years (x ∷ h) all = (all.0, all-years h all.1)

-- the years of a history that tables may state, in any order, are ones that a release can have
pub told-years : (h : List Entry) (ys : List ℤ) → IsKeptHistory h → IsPermutation ys (years_of h) → All IsReleaseYear ys
told-years h ys kept p = all-moved-from IsReleaseYear ys (years_of h) p
    (all-years h
    (all-entries (λ e. IsReleaseYear (pos e.year)) h
    (λ i lt. ((entry_at h i).year, refl, above-zero h kept.lawful i lt, kept.years i))))

-- the years of a history that tables may state are those of the table once sorted
pub told-sorted-years : (h : List Entry) (ys : List ℤ) (sorted : List ℕ) → IsKeptHistory h → IsSorted nat_cmp sorted
    → IsPermutation ys (map (λ y. pos y) sorted) → IsPermutation ys (years_of h) → years_of h ≡ map (λ y. pos y) sorted
told-sorted-years h ys sorted kept up p q = sorted-years ys sorted (years_of h) up (years-ascend h kept.lawful) p q

-- ---- spans

-- rows of spans of a history that tables may state bear well-formed identifiers
pub told-ids : (h : List Entry) (spans : List StoredSpan) → IsKeptHistory h → AreSpansOf spans h → All (λ s. is_id s.id ≡ true) spans
told-ids h spans kept t = All-from_recursion (λ s. is_id s.id ≡ true) spans
    (all-map (IsSpanRow h) (λ s. is_id s.id ≡ true) spans (λ s is. let there =
    span-in-release h s.id (some (span_of h s.id) (s.since, s.until) is) in kept.ids s.id there.0 there.1) t.right) where
      some : (o : Option Years) (p : ℤ × ℤ) → shown_span o ≡ Some p → is_some o ≡ true
      some None p e = absurd cc
      some (Some y) p e = refl

-- rows say the same history where their spans are in another order
pub spans-told : {version : ℕ} {ms : List Mark} (c : Content) (spans : List StoredSpan) (h : List Entry) → IsPermutation c.spans spans → HasHistoryBySpans version ms c h
    → HasHistoryBySpans version ms (record c { spans = spans }) h
spans-told c spans h p t = record {
  kept = t.kept;
  formats_are = t.formats_are;
  years_are = t.years_are;
  spans_are = spans-moved c.spans spans h p t.spans_are;
  lines_are = t.lines_are;
  marks_are = t.marks_are;
}

-- ---- lines

readable-new : (o : Option (List ℕ)) → ((id : List ℕ) → o ≡ Some id → is_id id ≡ true) → (successor_text o ≡ []) ⊎ (is_id (successor_text o) ≡ true)
readable-new None f = inl refl
readable-new (Some id) f = inr (f id refl)

readable-rows : (y : ℤ) (n : ℕ) (rows : List Row) → ((id : List ℕ) → list_any (is_row_of id) rows ≡ true → is_id id ≡ true)
    → ((id : List ℕ) → list_any (names_successor id) rows ≡ true → is_id id ≡ true) → AllByRecursion IsReadable (lines_from y n rows)
readable-rows y n [] old new = tt
readable-rows y n (r ∷ rs) old new = (
  (
    old r.old (or_left (is_row_of r.old r) (list_any (is_row_of r.old) rs) (same-refl r.old)),
    readable-new r.new
        (λ id e. new id (or_left (names_successor id r) (list_any (names_successor id) rs) (ap (λ (o : Option (List ℕ)). is_this id o) e
        ∙ same-refl id))),
  ),
  readable-rows y (n + 1) rs (λ id e. old id (or_right (is_row_of id r) (list_any (is_row_of id) rs) e)) (λ id e. new id (or_right (names_successor id r) (list_any (names_successor id) rs) e)),
)

readable-entry : (h : List Entry) → IsKeptHistory h → (i : ℕ) → AllByRecursion IsReadable (lines_from (pos (entry_at h i).year) 0 (entry_at h i).rows)
readable-entry h kept i = readable-rows (pos (entry_at h i).year) 0 (entry_at h i).rows (old i) (λ id e. kept.ids id i (kept.lawful.successors id i e)) where
  old : (i : ℕ) (id : List ℕ) → list_any (is_row_of id) (entry_at h i).rows ≡ true → is_id id ≡ true
  old zero id e = let none = ap (λ (rs : List Row). list_any (is_row_of id) rs) kept.fits.first in absurd (let no = sym none ∙ e in cc)
  old (suc i) id e = let n : suc i ≡ i + 1 = omega arith in let d = kept.fits.of_dropped id i (ap (λ (k : ℕ). list_any (is_row_of id) (entry_at h k).rows) (sym n) ∙ e) in kept.ids id i d.1

all-lines : (h : List Entry) → AllByRecursion (λ e. AllByRecursion IsReadable (lines_from (pos e.year) 0 e.rows)) h → AllByRecursion IsReadable (lineage_lines h)
all-lines [] all = tt
all-lines (x ∷ h) all = all-append IsReadable (lines_from (pos x.year) 0 x.rows) (lineage_lines h) all.0 (all-lines h all.1)

-- the texts of the lines of a history that tables may state, in any order, can be read
pub readable-lines : (h : List Entry) (ls : List Line) → IsKeptHistory h → IsPermutation ls (lineage_lines h) → All IsReadable ls
readable-lines h ls kept p =
    all-moved-from IsReadable ls (lineage_lines h) p (all-lines h (all-entries (λ e. AllByRecursion IsReadable (lines_from (pos e.year) 0 e.rows)) h (λ i lt. readable-entry h kept i)))

-- ---- all that was read

-- spans read from tables with spans, and the history's lines, state the tables' history
pub told-said : {version : ℕ} {ms : List Mark} (c : Content) (h : List Entry) (spans : List KnownSpan) (lines : List KnownLine) → HasHistoryBySpans version ms c h → map span_in spans ≡ c.spans
    → known_of h ≡ lines → HasKnownHistory spans lines h
told-said c h spans lines t ss ls = record {
  kept = t.kept;
  sets = subst (λ (l : List StoredSpan). SetsAre l h) (sym ss) (sets-told h c.spans t.kept.lawful t.spans_are);
  lines_are = ls;
}

-- among spans read from rows that state a history no identifier has two
pub told-few : (h : List Entry) (spans : List KnownSpan) (rows : List StoredSpan) → map span_in spans ≡ rows → AreSpansOf rows h → (id : List ℕ) → length (filter (λ s. same_id id s.id) spans) ≤ 1
told-few h spans rows ss t id = let m = count-map spans id in let e = ap (λ (l : List StoredSpan). length (filter (λ s. same_id id s.id) l)) ss in let o = t.once id in omega (arith, m, e, o)

right-back : (g h : List Entry) (spans : List KnownSpan) → IsSameHistory g h → AllByRecursion (IsSpanRow h) (map span_in spans) → AllByRecursion (λ s. IsSpanRow g (span_in s)) spans
right-back g h [] same all = tt
right-back g h (s ∷ ss) same all = (ap shown_span (span-same g h s.id same) ∙ all.0, right-back g h ss same all.1)

-- spans read from rows that state a history are right in any history that is the same
pub told-right : (g h : List Entry) (spans : List KnownSpan) (rows : List StoredSpan) → map span_in spans ≡ rows → AreSpansOf rows h → IsSameHistory g h → All (λ s. IsSpanRow g (span_in s)) spans
told-right g h spans rows ss t same = All-from_recursion (λ s. IsSpanRow g (span_in s)) spans
    (right-back g h spans same (subst (λ (l : List StoredSpan). AllByRecursion (IsSpanRow h) l) (sym ss) t.right))
