-- A history less its last release.
use Rattle.std.proofs.Common.{◌≡◌, ◌∙◌, ◌<◌, ◌≤◌, ◌+◌, inl, inr, refl, sym, ap, subst, arith, ℕ, List, [], ◌∷◌, ◌++◌, length, Bool, true, false, Option, None, Some, cond, ◌&&◌, ◌||◌, not, nat_eq}
use Rattle.std.proofs.Common.{is_some, filter}
use Rattle.lpis_lineage.specs.ExactGroups.{is_outside}
use Rattle.lpis_lineage.specs.Kinds.{kind}
use Rattle.lpis_lineage.proofs.ExtensionLemmas.{Marked}
use Rattle.lpis_lineage.proofs.Common.{list_any, has_id, same_id, Row, Entry, Span, holds, entry_at, names_successor, is_row_of, same_row, last_live, last_year, IsAnswered, IsLawful, RowsFit}
use Rattle.lpis_lineage.proofs.Common.{first_held, last_held}
use Rattle.lpis_lineage.proofs.Common.{span_between, span_of, begun, ended_in, forgotten}
use Rattle.std.proofs.lemmas.Bool.{eq-eqb}
use Rattle.std.proofs.lemmas.Bool.Decides.{eqb_tells}
use Rattle.lpis_lineage.specs.Lawful.{Drops}
use Rattle.lpis_lineage.specs.private.Keeping.{IsHistory}
use Rattle.lpis_lineage.proofs.IdentifierLemmas.{entry-before, entry-here, entry-after, in-history, same-exact, same-sym}
use Rattle.lpis_lineage.proofs.ExtensionLemmas.{before-at-after, longer, no-row-beyond, follows-back, hold-before}
use Rattle.lpis_lineage.proofs.SpanLemmas.{first-index}
use Rattle.lpis_lineage.proofs.SpanStepLemmas.{first-none, first-some, live-year, span-more}

-- ---- lawful
less-consecutive : (h : List Entry) (e : Entry) → IsLawful (h ++ e ∷ []) → (id : List ℕ) (i j k : ℕ) → i ≤ j → j ≤ k → holds h i id ≡ true → holds h k id ≡ true → holds h j id ≡ true
less-consecutive h e law id i j k ij jk hi hk =
    let kl : k < length h = in-history h k id hk in
    let il : i < length h = omega arith in
    let jl : j < length h = omega arith in
    sym (hold-before h e j id jl) ∙ law.consecutive id i j k ij jk (hold-before h e i id il ∙ hi) (hold-before h e k id kl ∙ hk)

more-drops : (h : List Entry) (e : Entry) (i : ℕ) (id : List ℕ) → Drops h i id → Drops (h ++ e ∷ []) i id
more-drops h e i id d =
    let n = longer h e in
    let next : i + 1 < length h = d.0 in
    let il : i < length h = omega arith in
    (omega (arith, n), hold-before h e i id il ∙ d.1, hold-before h e (i + 1) id next ∙ d.2)

less-named : (h : List Entry) (e : Entry) → IsLawful (h ++ e ∷ []) → (id : List ℕ) (i : ℕ) → list_any (names_successor id) (entry_at h i).rows ≡ true → holds h i id ≡ true
less-named h e law id i named = elim (before-at-after i (length h)) as (λ _. holds h i id ≡ true) [
  | inl a ↦ sym (hold-before h e i id a) ∙ law.successors id i (ap (λ (x : Entry). list_any (names_successor id) x.rows) (entry-before h e i a) ∙ named)
  | inr b ↦ absurd (let no = no-row-beyond h i (elim b as (λ _. length h ≤ i) [ inl at ↦ omega arith | inr c ↦ omega arith ]) (names_successor id) in cc)
]

less-lawful : (h : List Entry) (e : Entry) → IsLawful (h ++ e ∷ []) → IsLawful h
less-lawful h e law =
    let n = longer h e in
    record {
      first_year = λ some. subst (λ (x : Entry). 0 < x.year) (entry-before h e 0 some) (law.first_year (omega (arith, n)));
      years_rise = λ i j ij jl.
          let il : i < length h = omega arith in
          let rise = law.years_rise i j ij (omega (arith, n)) in
          let at_i = ap (λ (x : Entry). x.year) (entry-before h e i il) in
          let at_j = ap (λ (x : Entry). x.year) (entry-before h e j jl) in
          omega (arith, rise, at_i, at_j);
      consecutive = less-consecutive h e law;
      continued = λ id i d. subst (λ (x : Entry). IsAnswered x.rows id) (entry-before h e (i + 1) d.0) (law.continued id i (more-drops h e i id d));
      successors = less-named h e law;
    }

-- ---- rows fit
less-first : (h : List Entry) (e : Entry) → RowsFit (h ++ e ∷ []) → (entry_at h 0).rows ≡ []
less-first [] e fit = refl
less-first (x ∷ h) e fit = fit.first

less-once : (h : List Entry) (e : Entry) → RowsFit (h ++ e ∷ []) → (row : Row) (i : ℕ) → length (filter (same_row row) (entry_at h i).rows) ≤ 1
less-once h e fit row i =
    let P : Entry → Type 0 = λ x. length (filter (same_row row) x.rows) ≤ 1 in
    elim (before-at-after i (length h)) as (λ _. P (entry_at h i)) [
      | inl a ↦ subst P (entry-before h e i a) (fit.once row i)
      | inr b ↦ subst P (sym (entry-after h i (elim b as (λ _. length h ≤ i) [ inl at ↦ omega arith | inr c ↦ omega arith ]))) (omega arith)
    ]

less-dropped : (h : List Entry) (e : Entry) → RowsFit (h ++ e ∷ []) → (id : List ℕ) (i : ℕ) → list_any (is_row_of id) (entry_at h (i + 1)).rows ≡ true → Drops h i id
less-dropped h e fit id i is = elim (before-at-after (i + 1) (length h)) as (λ _. Drops h i id) [
  | inl a ↦
      let il : i < length h = omega arith in
      let d = fit.of_dropped id i (ap (λ (x : Entry). list_any (is_row_of id) x.rows) (entry-before h e (i + 1) a) ∙ is) in
      (a, sym (hold-before h e i id il) ∙ d.1, sym (hold-before h e (i + 1) id a) ∙ d.2)
  | inr b ↦ absurd (let no = no-row-beyond h (i + 1) (elim b as (λ _. length h ≤ i + 1) [ inl at ↦ omega arith | inr c ↦ omega arith ]) (is_row_of id) in cc)
]

less-marked : (h : List Entry) (e : Entry) → RowsFit (h ++ e ∷ []) → (i : ℕ) → Marked (entry_at h i) (entry_at h (i + 1))
less-marked h e fit i = elim (before-at-after (i + 1) (length h)) as (λ _. Marked (entry_at h i) (entry_at h (i + 1))) [
  | inl a ↦
      let il : i < length h = omega arith in
      subst (λ (x : Entry). Marked x (entry_at h (i + 1))) (entry-before h e i il)
      (subst (λ (x : Entry). Marked (entry_at (h ++ e ∷ []) i) x) (entry-before h e (i + 1) a) (fit.marked i))
  | inr b ↦ no-row-beyond h (i + 1) (elim b as (λ _. length h ≤ i + 1) [ inl at ↦ omega arith | inr c ↦ omega arith ])
      (is_outside (kind (entry_at h i).live (entry_at h (i + 1)).live (entry_at h (i + 1)).rows) (entry_at h (i + 1)).rows)
]

less-fits : (h : List Entry) (e : Entry) → RowsFit (h ++ e ∷ []) → RowsFit h
less-fits h e fit = record { first = less-first h e fit; once = less-once h e fit; of_dropped = less-dropped h e fit; marked = less-marked h e fit }

-- ---- spans
eq-below : (n m : ℕ) → n < m → nat_eq n m ≡ false
eq-below n m lt = elim (eqb_tells n m) as (λ _. nat_eq n m ≡ false) [ inl t ↦ absurd (let e = t.1 in omega (arith, lt, e)) | inr f ↦ f.0 ]

back : (f l : Option ℕ) (was is : Bool) (y last : ℕ)
    → (f ≡ None → was ≡ false) → (is_some f ≡ true → is_some l ≡ true) → ((n : ℕ) → f ≡ Some n → nat_eq n y ≡ false)
    → ended_in was 0 (forgotten is y (ended_in (was && not is) last (begun (is && not (is_some (span_between f l was))) y (span_between f l was)))) ≡ span_between f l was
back None l true is y last gone some below = absurd (let g = gone refl in cc)
back None l false true y last gone some below = ap (λ (b : Bool). ended_in false 0 (cond b None (Some (record { first = y; last = 0 })))) (eq-eqb y y refl)
back (Some f) None was is y last gone some below = absurd (let s = some refl in cc)
back (Some f) (Some l) true true y last gone some below = ap (λ (b : Bool). ended_in true 0 (cond b None (Some (record { first = f; last = 0 })))) (below f refl)
back (Some f) (Some l) false true y last gone some below = ap (λ (b : Bool). ended_in false 0 (cond b None (Some (record { first = f; last = l })))) (below f refl)
back _ _ _ _ _ _ _ _ _ = refl

span-less : (h : List Entry) (e : Entry) (id : List ℕ) → IsLawful (h ++ e ∷ []) → RowsFit (h ++ e ∷ [])
    → ended_in (has_id (last_live h) id) 0 (forgotten (has_id e.live id) e.year (span_of (h ++ e ∷ []) id)) ≡ span_of h id
span-less h e id law fit =
    ap (λ (o : Option Span). ended_in (has_id (last_live h) id) 0 (forgotten (has_id e.live id) e.year o)) (sym (span-more h e id (follows-back h e law fit)))
    ∙ back (first_held h id) (last_held h id) (has_id (last_live h) id) (has_id e.live id) e.year (last_year h) (λ n. dead n (has_id (last_live h) id) refl) (first-some h id) below where
      dead : first_held h id ≡ None → (b : Bool) → b ≡ has_id (last_live h) id → b ≡ false
      dead n true e = absurd (let y = live-year h id (sym e) in let z = first-none h id n in cc)
      dead n false e = refl

      below : (n : ℕ) → first_held h id ≡ Some n → nat_eq n e.year ≡ false
      below n first =
          let p = first-index h id n first in
          let pl : p.0 < length h = in-history h p.0 id p.1 in
          let more = longer h e in
          let rise = law.years_rise p.0 (length h) pl (omega (arith, more)) in
          let at_p = ap (λ (x : Entry). x.year) (entry-before h e p.0 pl) in
          let at_e = ap (λ (x : Entry). x.year) (entry-here h e) in
          let is = p.2 in
          eq-below n e.year (omega (arith, rise, at_p, at_e, is))

-- a history less its last release
pub history-less : (h before whole new : List Entry) (e : Entry) (old spans : List ℕ → Option Span) → IsHistory whole old → whole ≡ h ++ e ∷ [] → new ≡ h → before ≡ h
    → ((q : List ℕ) → spans q ≡ ended_in (has_id (last_live before) q) 0 (forgotten (has_id e.live q) e.year (old q))) → IsHistory new spans
history-less h before whole new e old spans keeps w n b takes =
    let law : IsLawful (h ++ e ∷ []) = subst IsLawful w keeps.lawful in
    let fit : RowsFit (h ++ e ∷ []) = subst RowsFit w keeps.fits in
    record {
      lawful = subst IsLawful (sym n) (less-lawful h e law);
      fits = subst RowsFit (sym n) (less-fits h e fit);
      spans_are = λ q.
          takes q ∙ ap (λ (l : List Entry). ended_in (has_id (last_live l) q) 0 (forgotten (has_id e.live q) e.year (old q))) b
          ∙ ap (λ (o : Option Span). ended_in (has_id (last_live h) q) 0 (forgotten (has_id e.live q) e.year o)) (keeps.spans_are q ∙ ap (λ (l : List Entry). span_of l q) w)
          ∙ span-less h e q law fit ∙ ap (λ (l : List Entry). span_of l q) (sym n);
    }

-- ---- one identifier of a set after the other
-- the identifier's span begins in the year, and is gone
pub forget-gone : (rest : List (List ℕ)) (id q : List ℕ) (year : ℕ) (s : Span) (f : List ℕ → Option Span) (new : Option Span) → f id ≡ Some s → s.first ≡ year → new ≡ cond (same_id id q) None (f q)
    → forgotten (has_id rest q) year new ≡ forgotten (has_id (id ∷ rest) q) year (f q)
forget-gone rest id q year s f new had at n =
    ap (λ (o : Option Span). forgotten (has_id rest q) year o) n ∙ by (same_id id q) refl ∙ ap (λ (b : Bool). forgotten (b || has_id rest q) year (f q)) (same-sym id q) where
      by : (t : Bool) → t ≡ same_id id q → forgotten (has_id rest q) year (cond t None (f q)) ≡ forgotten (t || has_id rest q) year (f q)
      by true e = ap (λ (b : Bool). cond b None (Some s)) (sym (eq-eqb s.first year at)) ∙ ap (λ (o : Option Span). forgotten true year o) (sym (sym (ap f (same-exact id q (sym e))) ∙ had))
      by false e = refl

-- a span that goes on, or ends with a year
pub reopen-some : (rest : List (List ℕ)) (id q : List ℕ) (year : ℕ) (s : Span) (f : List ℕ → Option Span) (new : Option Span)
    → f id ≡ Some s → new ≡ cond (same_id id q) (Some (record { first = s.first; last = year })) (f q)
    → ended_in (has_id rest q) year new ≡ ended_in (has_id (id ∷ rest) q) year (f q)
reopen-some rest id q year s f new had n =
    ap (λ (o : Option Span). ended_in (has_id rest q) year o) n ∙ by (has_id rest q) (same_id id q) refl ∙ ap (λ (b : Bool). ended_in (b || has_id rest q) year (f q)) (same-sym id q) where
      by : (h t : Bool) → t ≡ same_id id q → ended_in h year (cond t (Some (record { first = s.first; last = year })) (f q)) ≡ ended_in (t || h) year (f q)
      by true true e = ap (λ (o : Option Span). ended_in true year o) (sym had ∙ ap f (same-exact id q (sym e)))
      by false true e = ap (λ (o : Option Span). ended_in true year o) (sym had ∙ ap f (same-exact id q (sym e)))
      by h false e = refl

-- an identifier without a span
pub reopen-none : (rest : List (List ℕ)) (id q : List ℕ) (year : ℕ) (f : List ℕ → Option Span) → f id ≡ None → ended_in (has_id rest q) year (f q) ≡ ended_in (has_id (id ∷ rest) q) year (f q)
reopen-none rest id q year f had = by (has_id rest q) (same_id id q) refl ∙ ap (λ (b : Bool). ended_in (b || has_id rest q) year (f q)) (same-sym id q) where
  by : (h t : Bool) → t ≡ same_id id q → ended_in h year (f q) ≡ ended_in (t || h) year (f q)
  by h true e = let n : f q ≡ None = ap f (sym (same-exact id q (sym e))) ∙ had in ap (λ (o : Option Span). ended_in h year o) n ∙ ap (λ (o : Option Span). ended_in true year o) (sym n)
  by h false e = refl
