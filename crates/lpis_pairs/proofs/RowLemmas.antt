-- The near pairs that stand before (i, j), as a list: what the two nested loops have found when they come to (i, j).
use Rattle.std.proofs.Common.{◌≡◌, ℕ, ◌+◌, ◌<◌, ◌≤◌, List, [], ◌∷◌, ◌++◌, length, Option, Some, ◌⊎◌, inl, inr, refl, sym, ◌∙◌, subst, arith, slice_get}
use Rattle.lpis_pairs.proofs.Common.{slice_get_within, Triangle, IsNear}
use Rattle.lpis_pairs.specs.NearPairs.{IsBelow, IsNearList}
use Rattle.lpis_pairs.proofs.PushLemmas.{push_cases, push_old, push_new}

-- the list has the near pairs before (i, j), and nothing else, ascending
pub record NearUpTo (ts : List Triangle) (ps : List (ℕ × ℕ)) (i j : ℕ) : Type 0 where
  pub ascending : (k m : ℕ) (p q : ℕ × ℕ) → k < m → slice_get ps k ≡ Some p → slice_get ps m ≡ Some q → IsBelow p.0 p.1 q.0 q.1
  pub near : (k : ℕ) (p : ℕ × ℕ) → slice_get ps k ≡ Some p → IsNear ts p.0 p.1
  pub before : (k : ℕ) (p : ℕ × ℕ) → slice_get ps k ≡ Some p → IsBelow p.0 p.1 i j
  pub all : (a b : ℕ) → IsNear ts a b → IsBelow a b i j → (k : ℕ) × (slice_get ps k ≡ Some (a, b))

-- the place before (i, j + 1) is before (i, j), or there
last : (i j a b : ℕ) → IsBelow a b i (j + 1) → IsBelow a b i j ⊎ ((a ≡ i) × (b ≡ j))
last i j a b l = grind arith

-- the empty list has the near pairs before (0, 0), of which there are none
pub no_pairs_yet : (ts : List Triangle) (ps : List (ℕ × ℕ)) → ps ≡ [] → NearUpTo ts ps 0 0
no_pairs_yet ts ps e = subst (λ (qs : List (ℕ × ℕ)). NearUpTo ts qs 0 0) (sym e) (record {
  ascending = λ k m p q h f g. absurd (cc);
  near = λ k p f. absurd (cc);
  before = λ k p f. absurd (cc);
  all = λ a b n h. absurd (omega arith);
})

-- no pair stands between (i, 0) and (i, i + 1)
pub begin_row : (ts : List Triangle) (ps : List (ℕ × ℕ)) (i : ℕ) → NearUpTo ts ps i 0 → NearUpTo ts ps i (i + 1)
begin_row ts ps i h = record {
  ascending = h.ascending;
  near = h.near;
  before = λ k p f. let l = h.before k p f in grind arith;
  all = λ a b n l. h.all a b n (let r = n.rising in grind arith);
}

-- where (i, j) is no near pair, the list that has those before it has those before (i, j + 1)
pub passed_by : (ts : List Triangle) (ps : List (ℕ × ℕ)) (i j : ℕ) → NearUpTo ts ps i j → (IsNear ts i j → ⊥) → NearUpTo ts ps i (j + 1)
passed_by ts ps i j h not = record {
  ascending = h.ascending;
  near = h.near;
  before = λ k p f. let l = h.before k p f in grind arith;
  all = λ a b n l. elim (last i j a b l) [ inl s ↦ h.all a b n s | inr e ↦ absurd (not (rw (← e.0, ← e.1) n)) ];
}

-- where (i, j) is a near pair, the list with it pushed has those before (i, j + 1)
pub near_pair_pushed : (ts : List Triangle) (ps : List (ℕ × ℕ)) (i j : ℕ) → NearUpTo ts ps i j → IsNear ts i j → NearUpTo ts (ps ++ (i, j) ∷ []) i (j + 1)
near_pair_pushed ts ps i j h n = record {
  ascending = λ k m p q l f g. rises k m p q l (push_cases ps (i, j) p k f) (push_cases ps (i, j) q m g);
  near = λ k p f. elim (push_cases ps (i, j) p k f) [
    | inl s ↦ h.near k p s
    | inr e ↦ subst (λ (v : ℕ × ℕ). IsNear ts v.0 v.1) e.1 n
  ];
  before = λ k p f. elim (push_cases ps (i, j) p k f) [
    | inl s ↦ let l = h.before k p s in grind arith
    | inr e ↦ subst (λ (v : ℕ × ℕ). IsBelow v.0 v.1 i (j + 1)) e.1 (inr (refl, omega arith))
  ];
  all = λ a b m l. elim (last i j a b l) [
    | inl s ↦ let w = h.all a b m s in (w.0, push_old ps (i, j) (a, b) w.0 w.1)
    | inr e ↦ (length ps, push_new ps (i, j) ∙ pair a b e.0 e.1)
  ];
}
  where
    pair : (a b : ℕ) → a ≡ i → b ≡ j → ◌≡◌ {A = Option (ℕ × ℕ)} (Some (i, j)) (Some (a, b))
    pair a b e f = cc

    rises : (k m : ℕ) (p q : ℕ × ℕ) → k < m → (slice_get ps k ≡ Some p) ⊎ ((k ≡ length ps) × ((i, j) ≡ p)) → (slice_get ps m ≡ Some q) ⊎ ((m ≡ length ps) × ((i, j) ≡ q)) → IsBelow p.0 p.1 q.0 q.1
    rises k m p q l (inl f) (inl g) = h.ascending k m p q l f g
    rises k m p q l (inl f) (inr g) = subst (λ (v : ℕ × ℕ). IsBelow p.0 p.1 v.0 v.1) g.1 (h.before k p f)
    rises k m p q l (inr f) (inl g) = absurd (omega (arith, f.0, slice_get_within ps m q g))
    rises k m p q l (inr f) (inr g) = absurd (omega (arith, f.0, g.0))

-- once j is past the last triangle, the list has the near pairs before (i + 1, 0)
pub end_row : (ts : List Triangle) (ps : List (ℕ × ℕ)) (i j : ℕ) → length ts ≤ j → NearUpTo ts ps i j → NearUpTo ts ps (i + 1) 0
end_row ts ps i j e h = record {
  ascending = h.ascending;
  near = h.near;
  before = λ k p f. let l = h.before k p f in grind arith;
  all = λ a b n l. h.all a b n (let s = slice_get_within ts b n.u n.at_j in grind arith);
}

-- once i is past the last triangle, the list has all near pairs, and nothing else, ascending
pub all_near_listed : (ts : List Triangle) (ps : List (ℕ × ℕ)) (i : ℕ) → length ts ≤ i → NearUpTo ts ps i 0 → IsNearList ts ps
all_near_listed ts ps i e h = record {
  ascending = h.ascending;
  near = h.near;
  all = λ a b n. h.all a b n (inl (omega (arith, n.rising, slice_get_within ts b n.u n.at_j)));
}
