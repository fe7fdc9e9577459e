-- A history put together release by release is the front of the one that the rows say.
use Rattle.std.proofs.Common.{◌≡◌, ◌∙◌, ◌<◌, ◌≤◌, ◌+◌, inl, inr, refl, sym, ap, ap₂, subst, arith, ℕ, zero, suc, ℤ, pos, List, [], ◌∷◌, ◌++◌, Bool, true, cond, nat_lt, Option, None, Some, Err, ◌||◌}
use Rattle.std.proofs.Common.{length, map, take, get_or}
use Rattle.std.proofs.Common.{length-append, ◌&&◌, filter}
use Rattle.lpis_register_rows.proofs.Common.{AllByRecursion, list_any, map-append, has_id, same_id, Entry, Row, IsLawful, RowsFit, entry_at, holds, last_live, names_successor}
use Rattle.lpis_register_rows.proofs.Common.{first_held}
use Rattle.lpis_register_rows.proofs.Common.{last_held, span_of, in-history, before-at-after, take-at, KnownSpan}
use Rattle.lpis_register_rows.proofs.Common.{KnownLine, StoredSpan, known_from, IsSameHistory}
use Rattle.lpis_register_rows.proofs.Common.{known_of, years_of, covers, HasKnownHistory, span_in}
use Rattle.std.proofs.lemmas.List.{append-nil, append_assoc, append_cancel_left, length-take-le, get_or_default, take-append-le}
use Rattle.lpis_lineage.specs.declared.fault.LineageFault.{LineageFault}
use Rattle.lpis_lineage.specs.declared.fault.AddFault.{AddFault}
use Rattle.lpis_lineage.specs.declared.fault.AddFault.TheVariants.{Memory as WantsMemory, Year, Lineage}
use Rattle.lpis_lineage.specs.Accepts.{AddRefuses, Adds}
use Rattle.lpis_lineage.specs.Faults.{faults, first}
use Rattle.lpis_lineage.specs.Lawful.{IsAnswered}
use Rattle.lpis_lineage.specs.declared.kind.Kind.{Kind}
use Rattle.lpis_lineage.specs.declared.kind.Kind.TheVariants.{Kept, Ended}
use Rattle.lpis_lineage.specs.ExactGroups.{MarksHold, is_outside}
use Rattle.lpis_lineage.specs.Kinds.{by_counts, named_successors, kind, predecessors, successors, id_times}
use Rattle.lpis_lineage.specs.Lineage.{is_ended, is_row_of, last_year, same_row}
use Rattle.lpis_lineage.proofs.Shared.{never-follows, entry-after, entry-before, entry-here, longer}
use Rattle.lpis_register_rows.specs.private.Fronts.{IsDue, IsFront, IsRun}
use Rattle.lpis_register_rows.specs.private.Known.{known_line_at}
use Rattle.lpis_register_rows.proofs.AscendingLemmas.{Ascends, number_below, below-alone}
use Rattle.lpis_register_rows.proofs.KnownLemmas.{AreLive, take-whole}
use Rattle.lpis_register_rows.proofs.KnownRowLemmas.{known-above, rows-apart}
use Rattle.lpis_register_rows.proofs.NextReleaseLemmas.{any-map}
use Rattle.lpis_register_rows.proofs.SayingLemmas.{first_of, later_years}
use Rattle.lpis_register_rows.proofs.YearLemmas.{years-ascend}

-- ---- the front of a lawful history with fitting rows is one too

-- rows stand only where there is a release
rows-within : (g : List Entry) (i : ℕ) (test : Row → Bool) → list_any test (entry_at g i).rows ≡ true → i < length g
rows-within [] i test e = cc e
rows-within (x ∷ g) zero test e = omega arith
rows-within (x ∷ g) (suc i) test e = let lt = rows-within g i test e in omega (arith, lt)

front-lawful : (g h : List Entry) → IsFront g h → IsLawful h → IsLawful g
front-lawful g h f law = record {
  first_year = λ lt. let y = f.years 0 lt in let s = f.short in let b = law.first_year (omega (arith, lt, s)) in omega (arith, y, b);
  years_rise = λ i j ij jl. let a = f.years i (omega (arith, ij, jl)) in let b = f.years j jl in let s = f.short in let r = law.years_rise i j ij (omega (arith, jl, s)) in omega (arith, a, b, r);
  consecutive = λ id i j k ij jk hi hk.
      let kl = in-history g k id hk in
      f.sets j (omega (arith, jk, kl)) id ∙ law.consecutive id i j k ij jk (sym (f.sets i (omega (arith, ij, jk, kl)) id) ∙ hi) (sym (f.sets k kl id) ∙ hk);
  continued = λ id i d.
      let lt = d.0 in
      let s = f.short in
      subst (λ (rs : List Row). IsAnswered rs id) (sym (f.rows (i + 1) lt)) (law.continued id i (omega (arith, lt, s), sym (f.sets i (omega (arith, lt)) id) ∙ d.1, sym (f.sets (i + 1) lt id) ∙ d.2));
  successors = λ id i n. let il = rows-within g i (names_successor id) n in f.sets i il id ∙ law.successors id i (ap (λ (rs : List Row). list_any (names_successor id) rs) (sym (f.rows i il)) ∙ n);
}

any-alike : {A : Type 0} (p q : A → Bool) (xs : List A) → ((x : A) → p x ≡ q x) → list_any p xs ≡ list_any q xs
any-alike p q [] f = refl
any-alike p q (x ∷ xs) f = ap₂ (λ (a b : Bool). a || b) (f x) (any-alike p q xs f)

-- sets with the same members give the same kinds
kinds-alike : (l m a b : List (List ℕ)) (rows : List Row) → ((q : List ℕ) → has_id l q ≡ has_id m q) → ((q : List ℕ) → has_id a q ≡ has_id b q) → kind l a rows ≡ kind m b rows
kinds-alike l m a b rows last live = λ i id. one id i where
  by : List ℕ → Bool → Bool → Bool → Option Kind
  by id x y z = cond x (Some (cond y Kept (cond (is_ended rows id) Ended (by_counts (nat_lt 1 (length (successors rows id))) z)))) None

  one : (id : List ℕ) → kind l a rows id ≡ kind m b rows id
  one id =
      ap₂ (λ (x y : Bool). by id x y (list_any (λ s. nat_lt 1 (predecessors l a rows s)) (successors rows id))) (last id) (live id)
      ∙ ap (λ (z : Bool). by id (has_id m id) (has_id b id) z) (any-alike (λ s. nat_lt 1 (predecessors l a rows s)) (λ s. nat_lt 1 (predecessors m b rows s)) (successors rows id)
      (λ s. ap₂ (λ (x y : Bool). nat_lt 1 (id_times (named_successors rows) s + cond (x && y) 1 0)) (last s) (live s)))

front-fits : (g h : List Entry) → IsFront g h → RowsFit h → RowsFit g
front-fits g h f fit = record {
  first = first-rows g f;
  once = λ row i. elim (before-at-after i (length g)) as (λ _. length (filter (same_row row) (entry_at g i).rows) ≤ 1) [
    | inl lt ↦ let n = ap (λ (rs : List Row). length (filter (same_row row) rs)) (f.rows i lt) in let o = fit.once row i in omega (arith, n, o)
    | inr r ↦ beyond row i (elim r as (λ _. length g ≤ i) [ inl e ↦ omega (arith, e) | inr lt ↦ omega (arith, lt) ])
  ];
  of_dropped = λ id i n.
      let il = rows-within g (i + 1) (is_row_of id) n in
      let d = fit.of_dropped id i (ap (λ (rs : List Row). list_any (is_row_of id) rs) (sym (f.rows (i + 1) il)) ∙ n) in
      (il, f.sets i (omega (arith, il)) id ∙ d.1, f.sets (i + 1) il id ∙ d.2);
  marked = λ i. elim (before-at-after (i + 1) (length g)) as (λ _. MarksHold (entry_at g i).live (entry_at g (i + 1)).live (entry_at g (i + 1)).rows) [
    | inl lt ↦ held i lt
    | inr r ↦ unmarked i (elim r as (λ _. length g ≤ i + 1) [ inl e ↦ omega (arith, e) | inr lt ↦ omega (arith, lt) ])
  ];
} where
  outside : (List ℕ → Option Kind) → List Row → Bool
  outside kind_of rows = list_any (is_outside kind_of rows) rows

  held : (i : ℕ) → i + 1 < length g → MarksHold (entry_at g i).live (entry_at g (i + 1)).live (entry_at g (i + 1)).rows
  held i lt =
      ap (λ (rs : List Row). outside (kind (entry_at g i).live (entry_at g (i + 1)).live rs) rs) (f.rows (i + 1) lt)
      ∙ ap (λ (kind_of : List ℕ → Option Kind). outside kind_of (entry_at h (i + 1)).rows)
      (kinds-alike (entry_at g i).live (entry_at h i).live (entry_at g (i + 1)).live (entry_at h (i + 1)).live (entry_at h (i + 1)).rows (f.sets i (omega (arith, lt))) (f.sets (i + 1) lt))
      ∙ fit.marked i

  unmarked : (i : ℕ) → length g ≤ i + 1 → MarksHold (entry_at g i).live (entry_at g (i + 1)).live (entry_at g (i + 1)).rows
  unmarked i le = ap (λ (x : Entry). outside (kind (entry_at g i).live (entry_at g (i + 1)).live x.rows) x.rows) (entry-after g (i + 1) le)

  first-rows : (k : List Entry) → IsFront k h → (entry_at k 0).rows ≡ []
  first-rows [] f = refl
  first-rows (x ∷ k) f = f.rows 0 (omega arith) ∙ fit.first

  beyond : (row : Row) (i : ℕ) → length g ≤ i → length (filter (same_row row) (entry_at g i).rows) ≤ 1
  beyond row i le = let n = ap (λ (x : Entry). length (filter (same_row row) x.rows)) (entry-after g i le) in omega (arith, n)

-- ---- one release more, and the whole

-- what holds of a history's positions and of one position more
more-index : (P : ℕ → Type 0) (n i : ℕ) → ((j : ℕ) → j < n → P j) → P n → i < n + 1 → P i
more-index P n i before here lt = elim (before-at-after i n) as (λ _. P i) [
  | inl a ↦ before i a
  | inr b ↦ elim b as (λ _. P i) [ inl e ↦ subst P (sym e) here | inr c ↦ absurd (omega (arith, lt, c)) ]
]

front-more : (g h : List Entry) (e : Entry) → IsFront g h → length g < length h → e.year ≡ (entry_at h (length g)).year
    → ((id : List ℕ) → has_id e.live id ≡ holds h (length g) id) → e.rows ≡ (entry_at h (length g)).rows
    → IsFront (g ++ e ∷ []) h
front-more g h e f more year set rows = record {
  short = let n = longer g e in omega (arith, n, more);
  years = λ i lt. more-index (λ (j : ℕ). (entry_at (g ++ e ∷ []) j).year ≡ (entry_at h j).year) (length g) i
      (λ j a. ap (λ (x : Entry). x.year) (entry-before g e j a) ∙ f.years j a) (ap (λ (x : Entry). x.year) (entry-here g e) ∙ year) (let n = longer g e in omega (arith, n, lt));
  sets = λ i lt. more-index (λ (j : ℕ). (id : List ℕ) → holds (g ++ e ∷ []) j id ≡ holds h j id) (length g) i
      (λ j a id. ap (λ (x : Entry). has_id x.live id) (entry-before g e j a) ∙ f.sets j a id)
      (λ id. ap (λ (x : Entry). has_id x.live id) (entry-here g e) ∙ set id) (let n = longer g e in
      omega (arith, n, lt));
  rows = λ i lt. more-index (λ (j : ℕ). (entry_at (g ++ e ∷ []) j).rows ≡ (entry_at h j).rows) (length g) i
      (λ j a. ap (λ (x : Entry). x.rows) (entry-before g e j a) ∙ f.rows j a) (ap (λ (x : Entry). x.rows) (entry-here g e) ∙ rows) (let n = longer g e in omega (arith, n, lt));
}

-- a front of a history that is as long as it is the same history
pub front-whole : (g h : List Entry) → IsFront g h → length g ≡ length h → IsSameHistory g h
front-whole g h f n = record {
  lengths = n;
  years = λ i. by (λ (x y : Entry). x.year ≡ y.year) refl f.years i;
  sets = λ i. by (λ (x y : Entry). (id : List ℕ) → has_id x.live id ≡ has_id y.live id) (λ id. refl) f.sets i;
  rows = λ i. by (λ (x y : Entry). x.rows ≡ y.rows) refl f.rows i;
} where
  none : Entry
  none = record { year = 0; live = []; rows = [] }

  beyond : (P : Entry → Entry → Type 0) → P none none → (i : ℕ) → length g ≤ i → P (entry_at g i) (entry_at h i)
  beyond P p i le = subst (λ (x : Entry). P x (entry_at h i)) (sym (entry-after g i le)) (subst (λ (y : Entry). P none y) (sym (entry-after h i (omega (arith, n, le)))) p)

  by : (P : Entry → Entry → Type 0) → P none none → ((i : ℕ) → i < length g → P (entry_at g i) (entry_at h i)) → (i : ℕ) → P (entry_at g i) (entry_at h i)
  by P p f i = elim (before-at-after i (length g)) as (λ _. P (entry_at g i) (entry_at h i)) [
    | inl lt ↦ f i lt
    | inr r ↦ beyond P p i (elim r as (λ _. length g ≤ i) [ inl e ↦ omega (arith, e) | inr lt ↦ omega (arith, lt) ])
  ]

-- ---- the same history gives the same spans

first-same : (g h : List Entry) (id : List ℕ) → length g ≡ length h → ((i : ℕ) → (entry_at g i).year ≡ (entry_at h i).year)
    → ((i : ℕ) → holds g i id ≡ holds h i id) → first_held g id ≡ first_held h id
first-same [] [] id n y s = refl
first-same (a ∷ g) (b ∷ h) id n y s = rw (s 0, y 0, first-same g h id (omega (arith, n)) (λ i. y (suc i)) (λ i. s (suc i))) refl
first-same _ _ id n y s = absurd (omega (arith, n))

last-same : (g h : List Entry) (id : List ℕ) → length g ≡ length h → ((i : ℕ) → (entry_at g i).year ≡ (entry_at h i).year) → ((i : ℕ) → holds g i id ≡ holds h i id) → last_held g id ≡ last_held h id
last-same [] [] id n y s = refl
last-same (a ∷ g) (b ∷ h) id n y s = rw (s 0, y 0, last-same g h id (omega (arith, n)) (λ i. y (suc i)) (λ i. s (suc i))) refl
last-same _ _ id n y s = absurd (omega (arith, n))

live-same : (g h : List Entry) (id : List ℕ) → length g ≡ length h → ((i : ℕ) → holds g i id ≡ holds h i id) → has_id (last_live g) id ≡ has_id (last_live h) id
live-same [] [] id n s = refl
live-same (a ∷ g) (b ∷ h) id n s = s (length g) ∙ (let m : length g ≡ length h = omega (arith, n) in ap (λ (k : ℕ). holds (b ∷ h) k id) m)
live-same _ _ id n s = absurd (omega (arith, n))

-- two histories that are the same give an identifier the same span
pub span-same : (g h : List Entry) (id : List ℕ) → IsSameHistory g h → span_of g id ≡ span_of h id
span-same g h id same = rw (
  first-same g h id same.lengths same.years (λ i. same.sets i id),
  last-same g h id same.lengths same.years (λ i. same.sets i id),
  live-same g h id same.lengths (λ i. same.sets i id),
)
    refl

-- ---- where a release's lines stand

at-append : (xs ys : List KnownLine) (n k : ℕ) → n ≡ length xs + k → known_line_at (xs ++ ys) n ≡ known_line_at ys k
at-append [] ys n k e = ap (known_line_at ys) (omega (arith, e))
at-append (x ∷ xs) ys zero k e = absurd (omega (arith, e))
at-append (x ∷ xs) ys (suc n) k e = at-append xs ys n k (omega (arith, e))

at-lines : (y : ℤ) (n : ℕ) (rs : List Row) (back : List KnownLine) (k : ℕ) → k < length rs
    → ((known_line_at (known_from y n rs ++ back) k).year ≡ y) × ((known_line_at (known_from y n rs ++ back) k).position ≡ pos (n + k))
at-lines y n [] back k lt = absurd (omega (arith, lt))
at-lines y n (r ∷ rs) back zero lt = (refl, (let e : n ≡ n + 0 = omega arith in ap (λ (m : ℕ). pos m) e))
at-lines y n (r ∷ rs) back (suc k) lt = let ih = at-lines y (n + 1) rs back k (omega (arith, lt)) in (ih.0, ih.1 ∙ (let e : n + 1 + k ≡ n + suc k = omega arith in ap (λ (m : ℕ). pos m) e))

at-end : (y : ℕ) (back : List KnownLine) → AllByRecursion (λ l. number_below (pos y) l.year) back → (known_line_at back 0).year ≡ pos y → ⊥
at-end y [] all e = absurd cc
at-end y (l ∷ ls) all e = let r : number_below (pos y) (pos y) = subst (number_below (pos y)) e all.0 in below-alone (pos y) (pos y) r r

lines-length : (y : ℤ) (n : ℕ) (rs : List Row) → length (known_from y n rs) ≡ length rs
lines-length y n [] = refl
lines-length y n (r ∷ rs) = ap suc (lines-length y (n + 1) rs)

lines-run : (y : ℕ) (front : List KnownLine) (rs : List Row) (back whole : List KnownLine) (from : ℕ) → whole ≡ front ++ (known_from (pos y) 0 rs ++ back)
    → from ≡ length front → AllByRecursion (λ l. number_below (pos y) l.year) back → IsRun whole from y (from + length rs)
lines-run y front rs back whole from w n above = record {
  within = omega arith;
  here = λ k lt. let l = at-lines (pos y) 0 rs back k (omega (arith, lt)) in let at =
      there (from + k) k (omega (arith, n)) in (
        ap (λ (x : KnownLine). x.year) at ∙ l.0,
        ap (λ (x : KnownLine). x.position) at ∙ l.1
            ∙ (let e : 0 + k ≡ k = omega arith in ap (λ (m : ℕ). pos m) e),
      );
  after =
      λ e. at-end y back above
      (sym (ap (λ (x : KnownLine). x.year) (there (from + length rs) (length rs) (omega (arith, n))
      ∙ at-append (known_from (pos y) 0 rs) back (length rs) 0 (let m = lines-length (pos y) 0 rs in omega (arith, m))))
      ∙ e);
} where
  there : (m k : ℕ) → m ≡ length front + k → known_line_at whole m ≡ known_line_at (known_from (pos y) 0 rs ++ back) k
  there m k e = ap (λ (l : List KnownLine). known_line_at l m) w ∙ at-append front (known_from (pos y) 0 rs ++ back) m k e

tail-front : (x y : Entry) (g h : List Entry) → IsFront (x ∷ g) (y ∷ h) → IsFront g h
tail-front x y g h f = record {
  short = let s = f.short in omega (arith, s);
  years = λ i lt. f.years (suc i) (omega (arith, lt));
  sets = λ i lt id. f.sets (suc i) (omega (arith, lt)) id;
  rows = λ i lt. f.rows (suc i) (omega (arith, lt));
}

-- the lines of a history after those of its front: the next release's, and then later ones
record IsNextLines (g h : List Entry) (back : List KnownLine) : Type 0 where
  pub are : known_of h ≡ known_of g ++ (known_from (pos (entry_at h (length g)).year) 0 (entry_at h (length g)).rows ++ back)
  pub above : AllByRecursion (λ l. number_below (pos (entry_at h (length g)).year) l.year) back

next-lines : (g h : List Entry) → IsFront g h → length g < length h → Ascends number_below (years_of h) → (back : List KnownLine) × IsNextLines g h back
next-lines [] (y ∷ h) f lt a = (known_of h, record { are = refl; above = known-above (pos y.year) h a.0 })
next-lines (x ∷ g) (y ∷ h) f lt a =
    let r = next-lines g h (tail-front x y g h f) (omega (arith, lt)) a.1 in
    let next : List KnownLine = known_from (pos (entry_at h (length g)).year) 0 (entry_at h (length g)).rows ++ r.0 in (
      r.0,
      record {
        are = ap₂ (λ (n : ℕ) (rs : List Row). known_from (pos n) 0 rs ++ known_of h) (sym (f.years 0 (omega arith))) (sym (f.rows 0 (omega arith)))
            ∙ ap (λ (l : List KnownLine). known_from (pos x.year) 0 x.rows ++ l) r.1.are ∙ sym (append_assoc (known_from (pos x.year) 0 x.rows) (known_of g) next);
        above = r.1.above;
      },
    )
next-lines _ _ f lt a = absurd (omega (arith, lt))

-- reading goes on up to the end of the run
pub run-more : (ls : List KnownLine) (from y stop next : ℕ) → IsRun ls from y stop → next ≤ stop → (known_line_at ls next).year ≡ pos y → next + 1 ≤ stop
run-more ls from y stop next run le e = elim (before-at-after next stop) as (λ _. next + 1 ≤ stop) [
  | inl lt ↦ omega (arith, lt)
  | inr r ↦ elim r as (λ _. next + 1 ≤ stop) [ inl at ↦ absurd (run.after (ap (λ (n : ℕ). (known_line_at ls n).year) (sym at) ∙ e)) | inr gt ↦ absurd (omega (arith, le, gt)) ]
]

-- a position from the start of a year's run to its end, with a line that is not of the year, is the end
pub run-end : (ls : List KnownLine) (from y stop next k : ℕ) → IsRun ls from y stop → next ≤ stop → next ≡ from + k → ((known_line_at ls next).year ≡ pos y → ⊥) → next ≡ stop
run-end ls from y stop next k run le at not = elim (before-at-after next stop) as (λ _. next ≡ stop) [
  | inl lt ↦ absurd (not (ap (λ (n : ℕ). (known_line_at ls n).year) at ∙ (run.here k (omega (arith, at, lt))).0))
  | inr r ↦ elim r as (λ _. next ≡ stop) [ inl e ↦ e | inr gt ↦ absurd (omega (arith, le, gt)) ]
]

-- the line k places after the start of a year's run, and within the run, has position k in its release
pub run-position : (ls : List KnownLine) (from y stop next k : ℕ) → IsRun ls from y stop → next ≡ from + k → next + 1 ≤ stop → (known_line_at ls next).position ≡ pos k
run-position ls from y stop next k run at le = ap (λ (n : ℕ). (known_line_at ls n).position) at ∙ (run.here k (omega (arith, at, le))).1

-- ---- the next release that rows say

last-below : (g h : List Entry) → IsFront g h → IsLawful h → length g < length h → last_year g < (entry_at h (length g)).year
last-below [] h f law lt = law.first_year lt
last-below (x ∷ g) h f law lt = let y = f.years (length g) (omega arith) in let r = law.years_rise (length g) (length (x ∷ g)) (omega arith) lt in omega (arith, y, r)

-- two lists of rows that stand at one position, before others or at the end, are equal
rows-cut : (y : ℕ) (front : List KnownLine) (rows others : List Row) (back whole read : List KnownLine) (next : ℕ) → next ≡ length front + length rows
    → whole ≡ front ++ (known_from (pos y) 0 rows ++ back) → read ≡ take next whole → read ≡ front ++ known_from (pos y) 0 others → others ≡ rows
rows-cut y front rows others back whole read next n w r o =
    (rows-apart y 0 others rows [] [] tt tt (append-nil (known_from (pos y) 0 others) ∙ alike
    ∙ sym (append-nil (known_from (pos y) 0 rows)))).0 where
      mid : List KnownLine
      mid = known_from (pos y) 0 rows

      long : next ≡ length (front ++ mid)
      long = let m = lines-length (pos y) 0 rows in let l = length-append front mid in omega (arith, n, m, l)

      alike : known_from (pos y) 0 others ≡ mid
      alike = append_cancel_left front (known_from (pos y) 0 others) mid (
          sym o ∙ r ∙ ap (take next) (w ∙ sym (append_assoc front mid back)) ∙ take-append-le next (front ++ mid) back (omega (arith, long)) ∙ take-whole (front ++ mid) next (omega (arith, long)))

module _ (spans : List KnownSpan) (lines : List KnownLine) (g h : List Entry) (from year : ℕ) (said : HasKnownHistory spans lines h) (due : IsDue g lines from year h)
    (within : from ≤ length lines) where
  begins : from ≡ length (known_of g)
  begins = let e = ap length due.lines_are in let t = length-take-le from lines within in omega (arith, e, t)

  later : (back : List KnownLine) × IsNextLines g h back
  later = next-lines g h due.front due.more (years-ascend h said.kept.lawful)

  whole : lines ≡ known_of g ++ (known_from (pos year) 0 (entry_at h (length g)).rows ++ later.0)
  whole = sym said.lines_are ∙ later.1.are ∙ ap (λ (n : ℕ). known_of g ++ (known_from (pos n) 0 (entry_at h (length g)).rows ++ later.0)) due.year_is

  -- its lines stand from here on
  pub due-run : IsRun lines from year (from + length (entry_at h (length g)).rows)
  due-run = lines-run year (known_of g) (entry_at h (length g)).rows later.0 lines from whole begins
      (subst (λ (n : ℕ). AllByRecursion (λ l. number_below (pos n) l.year) later.0) due.year_is later.1.above)

  -- what is read of them are its rows
  pub due-rows : (rows : List Row) (next : ℕ) → next ≡ from + length (entry_at h (length g)).rows
      → take next lines ≡ take from lines ++ known_from (pos year) 0 rows → rows ≡ (entry_at h (length g)).rows
  due-rows rows next n read =
      rows-cut year (known_of g) (entry_at h (length g)).rows rows later.0 lines (take next lines) next (let b = begins in omega (arith, b, n)) whole refl
      (read ∙ ap (λ (l : List KnownLine). l ++ known_from (pos year) 0 rows) (sym due.lines_are))

  due-set : (live : List (List ℕ)) → AreLive live year spans → (id : List ℕ) → has_id live id ≡ holds h (length g) id
  due-set live alive id =
      alive id ∙ sym (any-map (λ (s : StoredSpan). same_id id s.id && covers s year) span_in spans)
      ∙ ap (λ (n : ℕ). list_any (λ s. same_id id s.id && covers s n) (map span_in spans)) (sym due.year_is) ∙ sym (said.sets (length g) due.more id)

  -- with it the history is the front still
  pub due-added : (k : List Entry) (live : List (List ℕ)) (rows : List Row) → Adds g k year live rows → AreLive live year spans → rows ≡ (entry_at h (length g)).rows → IsFront k h
  due-added k live rows (e, k-is, year-is, is) alive r =
      subst (λ (l : List Entry). IsFront l h) (sym k-is) (front-more g h e due.front due.more (year-is ∙ sym due.year_is) (λ id. is.ids id ∙ due-set live alive id) (is.rows_are ∙ r))

  -- its year is above the last one
  pub due-year : year ≤ last_year g → ⊥
  due-year le = let b = last-below g h due.front said.kept.lawful due.more in let y = due.year_is in absurd (omega (arith, le, b, y))

  -- and it has no fault
  pub due-fault : (live : List (List ℕ)) (rows : List Row) (fault : LineageFault) → AreLive live year spans → rows ≡ (entry_at h (length g)).rows → first (faults g live rows) ≡ Some fault → ⊥
  due-fault live rows fault alive r told =
      let e : Entry = entry_at h (length g) in
      let f : IsFront (g ++ e ∷ []) h = front-more g h e due.front due.more refl (λ id. refl) refl in
      never-follows g live rows fault told e (record { ids = λ q. sym (due-set live alive q); rows_are = sym r })
      (front-lawful (g ++ e ∷ []) h f said.kept.lawful) (front-fits (g ++ e ∷ []) h f said.kept.fits)

-- what `add` refuses was not due
pub due-refused : (spans : List KnownSpan) (lines : List KnownLine) (g h : List Entry) (from year : ℕ) → HasKnownHistory spans lines h
    → IsDue g lines from year h → from ≤ length lines → (live : List (List ℕ)) (rows : List Row) (fault : AddFault)
    → AreLive live year spans → rows ≡ (entry_at h (length g)).rows → AddRefuses {A = Unit {0}} g year live rows (Err fault) → (fault ≡ WantsMemory → ⊥) → ⊥
due-refused spans lines g h from year said due within live rows WantsMemory alive r t f = f refl
due-refused spans lines g h from year said due within live rows (Year last) alive r t f = due-year spans lines g h from year said due within t.0
due-refused spans lines g h from year said due within live rows (Lineage fault) alive r t f = due-fault spans lines g h from year said due within live rows fault alive r t.1

-- ---- years

years-length : (h : List Entry) (ys : List ℕ) → years_of h ≡ map (λ y. pos y) ys → length h ≡ length ys
years-length [] [] e = refl
years-length (x ∷ h) (y ∷ ys) e = ap suc (years-length h ys (ap later_years e))
years-length _ _ e = absurd cc

year-at-index : (h : List Entry) (ys : List ℕ) (i : ℕ) → years_of h ≡ map (λ y. pos y) ys → i < length ys → (entry_at h i).year ≡ get_or ys i 0
year-at-index [] [] i e lt = absurd (omega (arith, lt))
year-at-index (x ∷ h) (y ∷ ys) zero e lt = ap first_of e
year-at-index (x ∷ h) (y ∷ ys) (suc i) e lt = year-at-index h ys i (ap later_years e) (omega (arith, lt))
year-at-index _ _ i e lt = absurd cc

-- a history of the first i years is as long as one of all the years, where there are at most i
pub as-long : (g h : List Entry) (ys : List ℕ) (i : ℕ) → years_of g ≡ map (λ y. pos y) (take i ys) → years_of h ≡ map (λ y. pos y) ys → length ys ≤ i → length g ≡ length h
as-long g h ys i a b le = let n = years-length g (take i ys) a in let m = years-length h ys b in let w = ap length (take-whole ys i le) in omega (arith, n, m, w)

-- the release of the next year is due
pub due-now : (g h : List Entry) (lines : List KnownLine) (from : ℕ) (ys : List ℕ) (i : ℕ) → i < length ys → IsFront g h
    → years_of g ≡ map (λ y. pos y) (take i ys) → years_of h ≡ map (λ y. pos y) ys → known_of g ≡ take from lines
    → IsDue g lines from (get_or ys i 0) h
due-now g h lines from ys i lt front a b l =
    let n = years-length g (take i ys) a in
    let m = years-length h ys b in
    let t = length-take-le i ys (omega (arith, lt)) in
    let at : length g ≡ i = omega (arith, n, t) in
    record { front = front; more = omega (arith, at, m, lt); year_is = ap (λ (k : ℕ). (entry_at h k).year) at ∙ year-at-index h ys i b lt; lines_are = l }

-- the first i years with the next one after them are the first i + 1 years
pub years-front-next : (ys : List ℕ) (i : ℕ) (old new : List ℤ) → i < length ys → old ≡ map (λ y. pos y) (take i ys) → new ≡ old ++ pos (get_or ys i 0) ∷ [] → new ≡ map (λ y. pos y) (take (i + 1) ys)
years-front-next ys i old new lt o n =
    n ∙ ap (λ (l : List ℤ). l ++ pos (get_or ys i 0) ∷ []) o ∙ sym (map-append (λ (y : ℕ). pos y) (take i ys) (get_or ys i 0 ∷ []))
    ∙ ap (λ (l : List ℕ). map (λ y. pos y) l) (take-at ys i (get_or ys i 0) lt (get_or_default ys i 0 (get_or ys i 0) lt))

same-lines : (g h : List Entry) → IsFront g h → length g ≡ length h → known_of g ≡ known_of h
same-lines [] [] f n = refl
same-lines (x ∷ g) (y ∷ h) f n =
    ap₂ (λ (n : ℕ) (rs : List Row). known_from (pos n) 0 rs ++ known_of g) (f.years 0 (omega arith)) (f.rows 0 (omega arith))
    ∙ ap (λ (l : List KnownLine). known_from (pos y.year) 0 y.rows ++ l) (same-lines g h (tail-front x y g h f) (omega (arith, n)))
same-lines _ _ f n = absurd (omega (arith, n))

-- with no release left no line is left
pub lines-whole : (spans : List KnownSpan) (lines : List KnownLine) (g h : List Entry) (from : ℕ) → HasKnownHistory spans lines h → IsFront g h
    → length g ≡ length h → known_of g ≡ take from lines → from < length lines → ⊥
lines-whole spans lines g h from said front n are lt = absurd (let e = ap length (are-same ∙ said.lines_are) in let a =
    ap length are in let t = length-take-le from lines (omega (arith, lt)) in omega (arith, e, a, t, lt)) where
      are-same : known_of g ≡ known_of h
      are-same = same-lines g h front n
