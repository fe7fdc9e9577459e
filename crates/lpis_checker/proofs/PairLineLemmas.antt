-- The pair lines: they ascend, each names two triangles, and a walk beside the near pairs finds the first that no line
-- names.
use Rattle.std.specs.Prelude.{⊤}
use Rattle.std.proofs.Common.{◌≡◌, ℕ, zero, suc, ◌+◌, ◌<◌, ◌≤◌, List, length, get_or, Some, ◌⊎◌, inl, inr, ap, sym, refl, ◌∙◌, subst, arith, slice_get}
use Rattle.lpis_checker.proofs.Common.{cases_eq, cases_lt, same_Some, slice_get_within, slice_get-get_or, Triangle, Contents, Cert, PairLine, triangles_of}
use Rattle.std.proofs.lemmas.Option.{MatchOption-at_some}
use Rattle.lpis_release.proofs.Shared.{item-within}
use Rattle.lpis_pairs.specs.NearPairs.{IsNear, IsNearList, IsBelow}
use Rattle.lpis_checker.specs.declared.condition.Site.TheVariants as site
use Rattle.lpis_checker.specs.GoodCertificate.{ConditionHolds, IsNamedPair, IsInOrder}
use Rattle.lpis_checker.specs.private.Naming.{NamesAt}
use Rattle.lpis_checker.specs.private.Searches.{AreLinesInOrder}

-- ---- the order of pairs
below_trans : (a b c d e f : ℕ) → IsBelow a b c d → IsBelow c d e f → IsBelow a b e f
below_trans a b c d e f (inl h) (inl k) = inl (omega arith)
below_trans a b c d e f (inl h) (inr k) = inl (let k₀ = k.0 in omega arith)
below_trans a b c d e f (inr h) (inl k) = inl (let h₀ = h.0 in omega arith)
below_trans a b c d e f (inr h) (inr k) = inr (h.0 ∙ k.0, (let h₁ = h.1 in let k₁ = k.1 in omega arith))

-- a pair does not stand before itself
pub below_not : (a b c d : ℕ) → IsBelow a b c d → a ≡ c → b ≡ d → ⊥
below_not a b c d (inl h) e f = omega arith
below_not a b c d (inr h) e f = let k = h.1 in omega arith

-- the lines ascend
pub lines_ascend : (c : Cert) → AreLinesInOrder c → (k m : ℕ) (p q : PairLine) → k < m → slice_get c.pairs k ≡ Some p → slice_get c.pairs m ≡ Some q → IsBelow p.i p.j q.i q.j
lines_ascend c h k zero p q l e f = absurd (omega arith)
lines_ascend c h k (suc m) p q l e f = by (split l) (λ x w g. lines_ascend c h k m p x w e g)
  where
    split : k < suc m → (k ≡ m) ⊎ (k < m)
    split l = elim (cases_eq k m) [ inl e ↦ inl e | inr n ↦ inr (omega arith) ]

    o : IsInOrder c (suc m) q
    o = MatchOption-at_some ⊤ (IsInOrder c (suc m)) q f (h (suc m))

    next : m + 1 ≡ suc m
    next = omega arith

    within : m < length c.pairs
    within = let w = slice_get_within c.pairs (suc m) q f in omega arith

    by : (k ≡ m) ⊎ (k < m) → ((x : PairLine) → k < m → slice_get c.pairs m ≡ Some x → IsBelow p.i p.j x.i x.j) → IsBelow p.i p.j q.i q.j
    by (inl s) rec = o.after m p next (ap (λ (n : ℕ). slice_get c.pairs n) (sym s) ∙ e)
    by (inr s) rec =
        let x = item-within c.pairs m within in
        below_trans p.i p.j x.0.i x.0.j q.i q.j (rec x.0 s x.1) (o.after m x.0 next x.1)

-- ---- the walk
-- how far it has come: k near pairs are named, and the lines below `at` name pairs before the others
pub record WalkAt (c : Cert) (near : List (ℕ × ℕ)) (at k : ℕ) : Type 0 where
  pub within : at ≤ length c.pairs
  pub behind : (m : ℕ) (l : PairLine) (n : ℕ) (p : ℕ × ℕ) → m < at → slice_get c.pairs m ≡ Some l → k ≤ n → slice_get near n ≡ Some p → IsBelow l.i l.j p.0 p.1
  pub passed : (n : ℕ) (p : ℕ × ℕ) → n < k → slice_get near n ≡ Some p → IsNamedPair c.pairs p.0 p.1

-- at its start the walk has passed no pair line and no near pair
pub walk_none : (c : Cert) (near : List (ℕ × ℕ)) → WalkAt c near 0 0
walk_none c near = record { within = omega arith; behind = λ m l n p h e k f. absurd (omega arith); passed = λ n p h e. absurd (omega arith) }

-- the next index: lines from the last one on up to it name earlier pairs, its own line doesn't
pub record Skips (c : Cert) (from at i j : ℕ) : Type 0 where
  pub high : at ≤ length c.pairs
  pub before : (m : ℕ) (l : PairLine) → from ≤ m → m < at → slice_get c.pairs m ≡ Some l → IsBelow l.i l.j i j
  pub stop : (l : PairLine) → slice_get c.pairs at ≡ Some l → IsBelow l.i l.j i j → ⊥

-- an index is the next if each line from the last one up to it names an earlier pair, and its own line does not
pub skips_over : (c : Cert) (lines : List PairLine) (from at i j : ℕ) → lines ≡ c.pairs → at ≤ length lines
    → ((m : ℕ) (l : PairLine) → from ≤ m → m < at → slice_get lines m ≡ Some l → IsBelow l.i l.j i j)
    → ((l : PairLine) → slice_get lines at ≡ Some l → IsBelow l.i l.j i j → ⊥) → Skips c from at i j
skips_over c lines from at i j e high before stop = record {
  high = subst (λ (ls : List PairLine). at ≤ length ls) e high;
  before = λ m l p q f. before m l p q (ap (λ (ls : List PairLine). slice_get ls m) e ∙ f);
  stop = λ l f. stop l (ap (λ (ls : List PairLine). slice_get ls at) e ∙ f);
}

-- the lines below the next index stand before the pair
skipped : (c : Cert) (near : List (ℕ × ℕ)) (from at k : ℕ) (p : ℕ × ℕ) → WalkAt c near from k
    → slice_get near k ≡ Some p → Skips c from at p.0 p.1 → (m : ℕ) (l : PairLine) → m < at
    → slice_get c.pairs m ≡ Some l → IsBelow l.i l.j p.0 p.1
skipped c near from at k p w e s m l h f = by (cases_lt m from)
  where
    least : k ≤ k
    least = omega arith

    by : (m < from) ⊎ (from ≤ m) → IsBelow l.i l.j p.0 p.1
    by (inl g) = w.behind m l k p g f least e
    by (inr g) = s.before m l g h f

-- where the line at the next index names the next near pair, the walk goes on there, past that pair
pub walk_more : (c : Cert) (ts : List Triangle) (near : List (ℕ × ℕ)) → IsNearList ts near → (from at k : ℕ) (p : ℕ × ℕ)
    → WalkAt c near from k → slice_get near k ≡ Some p → Skips c from at p.0 p.1 → NamesAt c.pairs at p.0 p.1
    → WalkAt c near at (k + 1)
walk_more c ts near law from at k p w e s named = record {
  within = s.high;
  behind = λ m l n q h f g i. below_trans l.i l.j p.0 p.1 q.0 q.1 (skipped c near from at k p w e s m l h f) (law.ascending k n p q (later n g) e i);
  passed = λ n q h f. by n q f (split n h);
}
  where
    later : (n : ℕ) → k + 1 ≤ n → k < n
    later n g = omega arith

    split : (n : ℕ) → n < k + 1 → (n < k) ⊎ (n ≡ k)
    split n h = elim (cases_eq n k) [ inl e ↦ inr e | inr x ↦ inl (omega arith) ]

    by : (n : ℕ) (q : ℕ × ℕ) → slice_get near n ≡ Some q → (n < k) ⊎ (n ≡ k) → IsNamedPair c.pairs q.0 q.1
    by n q f (inl h) = w.passed n q h f
    by n q f (inr h) =
        let same : p ≡ q = same_Some p q (sym e ∙ ap (λ (m : ℕ). slice_get near m) (sym h) ∙ f) in
        subst (λ (z : ℕ × ℕ). IsNamedPair c.pairs z.0 z.1) same (at, named.0, named.1, named.2, named.3)

-- past the last near pair each is named
pub walk_all : (r : Contents) (c : Cert) (ts : List Triangle) (near : List (ℕ × ℕ)) → ts ≡ triangles_of c.pieces
    → IsNearList ts near → (at k : ℕ) → length near ≤ k → WalkAt c near at k → (i j : ℕ)
    → ConditionHolds r c (site.Pair i j)
walk_all r c ts near numbered law at k l w i j n =
    let x = law.all i j (subst (λ (us : List Triangle). IsNear us i j) (sym numbered) n) in
    let within = slice_get_within near x.0 (i, j) x.1 in
    w.passed x.0 (i, j) (below x.0 within) x.1
  where
    below : (m : ℕ) → m < length near → m < k
    below m g = omega arith

-- a near pair that the line at the next index doesn't name is the first that none names
pub walk_fault : (r : Contents) (c : Cert) (ts : List Triangle) (near : List (ℕ × ℕ)) → AreLinesInOrder c → ts ≡ triangles_of c.pieces → IsNearList ts near
    → (from at k : ℕ) (p : ℕ × ℕ) → WalkAt c near from k → slice_get near k ≡ Some p → Skips c from at p.0 p.1 → (NamesAt c.pairs at p.0 p.1 → ⊥)
    → (ConditionHolds r c (site.Pair p.0 p.1) → ⊥) × ((i j : ℕ) → IsBelow i j p.0 p.1 → ConditionHolds r c (site.Pair i j))
walk_fault r c ts near ordered numbered law from at k p w e s not = (fails, pair_earlier)
  where
    not_named : IsNamedPair c.pairs p.0 p.1 → ⊥
    not_named x = by (cases_lt x.0 at) (cases_eq x.0 at)
      where
        by : (x.0 < at) ⊎ (at ≤ x.0) → (x.0 ≡ at) ⊎ ((x.0 ≡ at) → ⊥) → ⊥
        by (inl h) q = below_not x.1.i x.1.j p.0 p.1 (skipped c near from at k p w e s x.0 x.1 h x.2) x.3 x.4
        by (inr h) (inl q) = not (x.1, ap (λ (m : ℕ). slice_get c.pairs m) (sym q) ∙ x.2, x.3, x.4)
        by (inr h) (inr q) =
            let within = slice_get_within c.pairs x.0 x.1 x.2 in
            let strict : at < x.0 = omega arith in
            let inside : at < length c.pairs = omega arith in
            let l = get_or c.pairs at x.1 in
            let g = slice_get-get_or c.pairs at x.1 inside in
            s.stop l g (subst (λ (z : ℕ). IsBelow l.i l.j z p.1) x.3 (subst (λ (z : ℕ). IsBelow l.i l.j x.1.i z) x.4 (lines_ascend c ordered at x.0 l x.1 strict g x.2)))

    fails : ConditionHolds r c (site.Pair p.0 p.1) → ⊥
    fails h = not_named (h (subst (λ (us : List Triangle). IsNear us p.0 p.1) numbered (law.near k p e)))

    pair_earlier : (i j : ℕ) → IsBelow i j p.0 p.1 → ConditionHolds r c (site.Pair i j)
    pair_earlier i j b n = by (cases_lt x.0 k) (cases_eq x.0 k)
      where
        x : (m : ℕ) × (slice_get near m ≡ Some (i, j))
        x = law.all i j (subst (λ (us : List Triangle). IsNear us i j) (sym numbered) n)

        by : (x.0 < k) ⊎ (k ≤ x.0) → (x.0 ≡ k) ⊎ ((x.0 ≡ k) → ⊥) → IsNamedPair c.pairs i j
        by (inl h) q = w.passed x.0 (i, j) h x.1
        by (inr h) (inl q) =
            let y : ℕ × ℕ = (i, j) in
            let same : y ≡ p = same_Some y p (sym x.1 ∙ ap (λ (m : ℕ). slice_get near m) q ∙ e) in
            absurd (below_not i j p.0 p.1 b (ap (λ (z : ℕ × ℕ). z.0) same) (ap (λ (z : ℕ × ℕ). z.1) same))
        by (inr h) (inr q) =
            let strict : k < x.0 = omega arith in
            absurd (below_not i j i j (below_trans i j p.0 p.1 i j b (law.ascending k x.0 p (i, j) strict e x.1)) refl refl)
