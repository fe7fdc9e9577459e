-- Tables say one history.
use Rattle.std.proofs.Common.{◌≡◌, ◌∙◌, ◌<◌, ◌≤◌, inl, inr, refl, sym, ap, ap₂, subst, arith, ℕ, zero, suc, ℤ, pos, List, [], ◌∷◌, ◌++◌, Bool, true, false, length, Option, None, Some, ◌&&◌, ◌||◌}
use Rattle.std.proofs.Common.{nat_le, nat_eq, IsPermutation, int_eq}
use Rattle.lpis_register_rows.proofs.Common.{AllByRecursion, list_any, nat_tests, both_ways, has_id, same_id, Entry, IsLawful, entry_at, holds}
use Rattle.lpis_register_rows.proofs.Common.{span_of}
use Rattle.lpis_register_rows.proofs.Common.{in-history, same-exact, before-at-after, Content, Live, StoredSpan}
use Rattle.lpis_register_rows.proofs.Common.{IsKeptHistory, IsSameHistory, IsSpanRow, AreLiveOf, AreSpansOf, HasHistoryBySpans}
use Rattle.lpis_register_rows.proofs.Common.{HasHistoryByLive, lineage_lines, years_of, covers, Mark, known_from, known_of, marks_of}
use Rattle.std.specs.Int.Signed.{le_z}
use Rattle.std.proofs.lemmas.Int.{ints}
use Rattle.lpis_lineage.specs.declared.span.Span.{Span as Years}
use Rattle.lpis_lineage.specs.Spans.{in_span}
use Rattle.lpis_lineage.proofs.Shared.{span-tells, entry-after}
use Rattle.lpis_register_rows.proofs.AscendingLemmas.{Ascends, number_below, below-alone, same-ascending, both-orders}
use Rattle.lpis_register_rows.specs.Histories.{TablesHave, shown_span}
use Rattle.lpis_register_rows.specs.declared.version.Version.{Version}
use Rattle.lpis_register_rows.specs.declared.version.Version.TheVariants.{First, Second, Third}
use Rattle.lpis_register_rows.proofs.KnownRowLemmas.{known-above, rows-apart}
use Rattle.lpis_register_rows.proofs.MarkLemmas.{known-same, no-marks, mark-alone, mark_below, marks-ascend}
use Rattle.lpis_register_rows.proofs.YearLemmas.{line-alone, line_below, lines-ascend, years-ascend}
use Rattle.lpis_register_rows.proofs.SayingLemmas.{later_years}
use Rattle.std.proofs.Math.Bool.{and-false}

-- ---- sets

-- the test that a row of spans covers a year is that of the history's span with the same years
pub covers-years : (y : Years) (year : ℕ) → (le_z (pos y.first) (pos year) && (int_eq (pos y.last) (pos 0) || le_z (pos year) (pos y.last))) ≡ in_span y year
covers-years y year = ap₂ (λ (a b : Bool). a && b) (le-nat y.first year) (ap₂ (λ (a b : Bool). a || b) (eq-nat y.last) (le-nat year y.last)) where
  le-nat : (a b : ℕ) → le_z (pos a) (pos b) ≡ nat_le a b
  le-nat a b = grind (arith, ints, nat_tests)

  eq-nat : (a : ℕ) → int_eq (pos a) (pos 0) ≡ nat_eq a 0
  eq-nat zero = refl
  eq-nat (suc a) = let e : nat_eq (suc a) 0 ≡ false = grind (arith, nat_tests) in let f : int_eq (pos (suc a)) (pos 0) ≡ false = grind (arith, ints, nat_tests) in f ∙ sym e

-- a row of spans covers a release's year exactly where the release holds the identifier
row-covers : (h : List Entry) → IsLawful h → (s : StoredSpan) → IsSpanRow h s → (i : ℕ) → i < length h → covers s (entry_at h i).year ≡ holds h i s.id
row-covers h law s is i lt = by (span_of h s.id) refl is where
  since_in : Option (ℤ × ℤ) → ℤ
  since_in None = pos 0
  since_in (Some p) = p.0

  until_in : Option (ℤ × ℤ) → ℤ
  until_in None = pos 0
  until_in (Some p) = p.1

  by : (o : Option Years) → o ≡ span_of h s.id → shown_span o ≡ Some (s.since, s.until) → covers s (entry_at h i).year ≡ holds h i s.id
  by None eo e = absurd cc
  by (Some y) eo e =
      let year : ℕ = (entry_at h i).year in
      ap₂ (λ (a b : ℤ). le_z a (pos year) && (int_eq b (pos 0) || le_z (pos year) b)) (sym (ap since_in e)) (sym (ap until_in e))
      ∙ covers-years y year ∙ span-tells h law s.id y (sym eo) i lt

-- the identifiers of a release are those whose row covers its year
pub sets-told : (h : List Entry) (spans : List StoredSpan) → IsLawful h → AreSpansOf spans h → (i : ℕ) → i < length h → (id : List ℕ)
    → holds h i id ≡ list_any (λ s. same_id id s.id && covers s (entry_at h i).year) spans
sets-told h spans law t i lt id = sym (with-test spans t.right ∙ by (list_any (λ s. same_id id s.id) spans) refl (holds h i id) refl) where
  one : (s : StoredSpan) → IsSpanRow h s → (b : Bool) → b ≡ same_id id s.id → (same_id id s.id && covers s (entry_at h i).year) ≡ (same_id id s.id && holds h i id)
  one s is true e = ap (λ (b : Bool). same_id id s.id && b) (row-covers h law s is i lt ∙ ap (λ (q : List ℕ). holds h i q) (sym (same-exact id s.id (sym e))))
  one s is false e = ap (λ (b : Bool). b && covers s (entry_at h i).year) (sym e) ∙ ap (λ (b : Bool). b && holds h i id) e

  out : (a b c : Bool) → ((a && c) || (b && c)) ≡ ((a || b) && c)
  out true true false = refl
  out true false false = refl
  out _ _ _ = refl

  with-test : (ss : List StoredSpan) → AllByRecursion (IsSpanRow h) ss → list_any (λ s. same_id id s.id && covers s (entry_at h i).year) ss ≡ (list_any (λ s. same_id id s.id) ss && holds h i id)
  with-test [] all = refl
  with-test (s ∷ ss) all = ap₂ (λ (a b : Bool). a || b) (one s all.0 (same_id id s.id) refl) (with-test ss all.1) ∙ out (same_id id s.id) (list_any (λ s. same_id id s.id) ss) (holds h i id)

  by : (a : Bool) → a ≡ list_any (λ s. same_id id s.id) spans → (b : Bool) → b ≡ holds h i id → (list_any (λ s. same_id id s.id) spans && holds h i id) ≡ holds h i id
  by a ea true eb = ap (λ (x : Bool). x && holds h i id) (t.whole id i (sym eb))
  by a ea false eb = ap (λ (x : Bool). list_any (λ s. same_id id s.id) spans && x) (sym eb) ∙ and-false (list_any (λ s. same_id id s.id) spans) ∙ eb

-- ---- rows

abbrev year_in : List ℤ → ℤ
year_in [] = pos 0
year_in (y ∷ ys) = y

abbrev nat_in : ℤ → ℕ
nat_in (pos n) = n
nat_in z = 0

same-years : (h k : List Entry) → years_of h ≡ years_of k → (length h ≡ length k) × ((i : ℕ) → (entry_at h i).year ≡ (entry_at k i).year)
same-years [] [] e = (refl, λ i. refl)
same-years (x ∷ h) (y ∷ k) e = let more = same-years h k (ap later_years e) in (ap suc more.0, by more.1) where
  by : ((i : ℕ) → (entry_at h i).year ≡ (entry_at k i).year) → (i : ℕ) → (entry_at (x ∷ h) i).year ≡ (entry_at (y ∷ k) i).year
  by more zero = ap (λ (l : List ℤ). nat_in (year_in l)) e
  by more (suc i) = more i
same-years _ _ e = absurd cc

same-rows : (h k : List Entry) → years_of h ≡ years_of k → Ascends number_below (years_of h) → Ascends number_below (years_of k)
    → known_of h ≡ known_of k → (i : ℕ) → (entry_at h i).rows ≡ (entry_at k i).rows
same-rows [] [] e a b l i = refl
same-rows (x ∷ h) (y ∷ k) e a b l i =
    let at : pos x.year ≡ pos y.year = ap year_in e in
    let both = rows-apart x.year 0 x.rows y.rows (known_of h) (known_of k) (known-above (pos x.year) h a.0)
    (known-above (pos x.year) k (subst (λ (z : ℤ). AllByRecursion (number_below z) (years_of k)) (sym at) b.0))
    (l ∙ ap (λ (z : ℤ). known_from z 0 y.rows ++ known_of k) (sym at)) in
    by i both.0 (same-rows h k (ap later_years e) a.1 b.1 both.1) where
      by : (i : ℕ) → x.rows ≡ y.rows → ((j : ℕ) → (entry_at h j).rows ≡ (entry_at k j).rows) → (entry_at (x ∷ h) i).rows ≡ (entry_at (y ∷ k) i).rows
      by zero now more = now
      by (suc j) now more = more j
same-rows _ _ e a b l i = absurd cc

-- ---- the law

-- the same years and rows of lineage; the sets are said in each version's own way
same-history : (c : Content) (h k : List Entry) → IsKeptHistory h → IsKeptHistory k → IsPermutation c.years (years_of h) → IsPermutation c.years (years_of k)
    → IsPermutation c.lines (lineage_lines h) → IsPermutation c.lines (lineage_lines k) → (ms : List Mark) → IsPermutation ms (marks_of h) → IsPermutation ms (marks_of k)
    → (length h ≡ length k → ((i : ℕ) → (entry_at h i).year ≡ (entry_at k i).year) → (i : ℕ) (id : List ℕ) → holds h i id ≡ holds k i id) → IsSameHistory h k
same-history c h k kept also_kept h_years k_years h_lines k_lines ms h_marks k_marks sets =
    let up = years-ascend h kept.lawful in
    let also = years-ascend k also_kept.lawful in
    let years = same-ascending number_below below-alone (years_of h) (years_of k) up also (both-orders c.years (years_of h) (years_of k) h_years k_years) in
    let lines = same-ascending line_below line-alone (lineage_lines h) (lineage_lines k) (lines-ascend h up) (lines-ascend k also) (both-orders c.lines (lineage_lines h)
    (lineage_lines k) h_lines k_lines) in
    let marks = same-ascending mark_below mark-alone (marks_of h) (marks_of k) (marks-ascend h kept.lawful) (marks-ascend k also_kept.lawful)
    (both-orders ms (marks_of h) (marks_of k) h_marks k_marks) in
    let alike = same-years h k years in
    record { lengths = alike.0; years = alike.1; sets = sets alike.0 alike.1; rows = same-rows h k years up also (known-same h k kept also_kept lines marks) }

one-spans-history : (version : ℕ) (ms : List Mark) (c : Content) (h k : List Entry) → HasHistoryBySpans version ms c h → HasHistoryBySpans version ms c k → IsSameHistory h k
one-spans-history version ms c h k s t = same-history c h k s.kept t.kept s.years_are t.years_are s.lines_are t.lines_are ms s.marks_are t.marks_are sets where
  beyond : (l : List Entry) (i : ℕ) (id : List ℕ) → length l ≤ i → holds l i id ≡ false
  beyond l i id le = ap (λ (e : Entry). has_id e.live id) (entry-after l i le)

  sets : length h ≡ length k → ((i : ℕ) → (entry_at h i).year ≡ (entry_at k i).year) → (i : ℕ) (id : List ℕ) → holds h i id ≡ holds k i id
  sets n years i id = elim (before-at-after i (length h)) as (λ _. holds h i id ≡ holds k i id) [
    | inl lt ↦ sets-told h c.spans s.kept.lawful s.spans_are i lt id ∙ ap (λ (y : ℕ). list_any (λ s. same_id id s.id && covers s y) c.spans) (years i)
        ∙ sym (sets-told k c.spans t.kept.lawful t.spans_are i (omega (arith, n, lt)) id)
    | inr r ↦ elim r as (λ _. holds h i id ≡ holds k i id) [
      | inl e ↦ beyond h i id (omega (arith, e)) ∙ sym (beyond k i id (omega (arith, e, n)))
      | inr g ↦ beyond h i id (omega (arith, g)) ∙ sym (beyond k i id (omega (arith, g, n)))
    ]
  ]

-- ---- the same of version 1

-- years rise, so each has one position
pub same-index : (h : List Entry) → IsLawful h → (i j : ℕ) → i < length h → j < length h → (entry_at h i).year ≡ (entry_at h j).year → i ≡ j
same-index h law i j a b e = elim (before-at-after i j) as (λ _. i ≡ j) [
  | inl lt ↦ absurd (let r = law.years_rise i j lt b in omega (arith, r, e))
  | inr r ↦ elim r as (λ _. i ≡ j) [
    | inl same ↦ same
    | inr gt ↦ absurd (let r = law.years_rise j i gt a in omega (arith, r, e))
  ]
]

nat-of : (m n : ℕ) → pos m ≡ pos n → m ≡ n
nat-of m n e = cc

-- what one of them holds the other holds
live-held : (h k : List Entry) (live : List Live) → AreLiveOf live h → AreLiveOf live k → IsLawful k → length h ≡ length k
    → ((i : ℕ) → (entry_at h i).year ≡ (entry_at k i).year) → (i : ℕ) (id : List ℕ) → holds h i id ≡ true → holds k i id ≡ true
live-held h k live a b law lengths years i id held =
    let at = b.right _ (a.whole id i held) in
    let lt = in-history h i id held in
    let year : (entry_at k i).year ≡ (entry_at k at.0).year = sym (years i) ∙ nat-of _ _ at.2 in
    let same = same-index k law i at.0 (omega (arith, lt, lengths)) at.1 year in
    ap (λ (n : ℕ). holds k n id) same ∙ at.3

one-live-history : (c : Content) (h k : List Entry) → HasHistoryByLive c h → HasHistoryByLive c k → IsSameHistory h k
one-live-history c h k s t = same-history c h k s.kept t.kept s.years_are t.years_are s.lines_are t.lines_are [] (no-marks h s.unmarked) (no-marks k t.unmarked)
    (λ n years i id. both_ways (holds h i id) (holds k i id)
    (live-held h k c.live s.live_are t.live_are t.kept.lawful n years i id)
    (live-held k h c.live t.live_are s.live_are s.kept.lawful (sym n) (λ j. sym (years j)) i id))

-- two histories that the same tables state, in any one version, are the same
pub one-history : (version : Version) (c : Content) (h k : List Entry) → TablesHave version c h → TablesHave version c k → IsSameHistory h k
one-history First c h k s t = one-live-history c h k s t
one-history Second c h k s t = one-spans-history 2 [] c h k s t
one-history Third c h k s t = one-spans-history 3 c.marks c h k s t
