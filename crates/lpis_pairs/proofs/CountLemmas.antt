-- Near pairs that rise, of which there are as many as a list of all has, are all.
use Rattle.std.proofs.Common.{◌≡◌, ℕ, zero, suc, ◌<◌, ◌≤◌, Bool, true, false, ◌||◌, List, ◌∷◌, length, get_or, Some, inl, inr, ap, refl, ◌∙◌, arith, slice_get}
use Rattle.lpis_pairs.proofs.Common.{Triangle, IsNear}
use Rattle.std.specs.List.{IsDistinct, list_any}
use Rattle.std.proofs.lemmas.List.Folds.{list_any_at}
use Rattle.std.proofs.lemmas.Map.Keys.{IsDistinct-from_apart, any_passes_from_place}
use Rattle.std.proofs.lemmas.Map.Made.{length-le_from_is_member}
use Rattle.std.proofs.lemmas.Map.Views.{Contains-from_any}
use Rattle.std.proofs.lemmas.Option.{slice_get-get_or}
use Rattle.lpis_pairs.specs.NearPairs.{HasNearPairs, IsBelow}
use Rattle.lpis_pairs.specs.private.Sweeping.{IsRising}
use Rattle.lpis_pairs.proofs.PairOrderLemmas.{equivalence, exact, pair_eq}

not_itself : (a b c d : ℕ) → IsBelow a b c d → a ≡ c → b ≡ d → ⊥
not_itself a b c d (inl l) e f = omega arith
not_itself a b c d (inr l) e f = let m = l.1 in omega arith

clash : (b : Bool) → b ≡ false → b ≡ true → ⊥
clash b e f = cc

told : (b : Bool) → (b ≡ true → ⊥) → b ≡ false
told true h = absurd (h refl)
told false h = refl

-- of rising pairs and one that is none of them no two are equal
distinct : (qs : List (ℕ × ℕ)) (p : ℕ × ℕ) → IsRising qs → list_any (pair_eq p) qs ≡ false → IsDistinct pair_eq (p ∷ qs)
distinct qs p rising none = IsDistinct-from_apart pair_eq (p ∷ qs) by
  where
    by : (i j : ℕ) (d : ℕ × ℕ) → i < j → j < length (p ∷ qs) → pair_eq (get_or (p ∷ qs) i d) (get_or (p ∷ qs) j d) ≡ false
    by i zero d l m = absurd (omega arith)
    by zero (suc j) d l m = told _ (λ e. clash _ none (list_any_at (pair_eq p) qs j d (omega arith) e))
    by (suc i) (suc j) d l m =
        let x = get_or qs i d in
        let y = get_or qs j d in
        told (pair_eq x y) (λ e. let same = exact x y e in
        not_itself x.0 x.1 y.0 y.1
        (rising i j x y (omega arith) (slice_get-get_or qs i d (omega arith)) (slice_get-get_or qs j d (omega arith)))
        (ap (λ (q : ℕ × ℕ). q.0) same) (ap (λ (q : ℕ × ℕ). q.1) same))

-- rising near pairs, as many as a list of all near pairs has or more, are all near pairs
pub as_many_are_all : (ts : List Triangle) (found qs : List (ℕ × ℕ)) → HasNearPairs ts found → IsRising qs
    → ((k : ℕ) (p : ℕ × ℕ) → slice_get qs k ≡ Some p → IsNear ts p.0 p.1) → length found ≤ length qs
    → (i j : ℕ) → IsNear ts i j → (k : ℕ) × (slice_get qs k ≡ Some (i, j))
as_many_are_all ts found qs has rising near many i j n = by (list_any (pair_eq (i, j)) qs) refl
  where
    among : (q : ℕ × ℕ) → IsNear ts q.0 q.1 → list_any (pair_eq q) found ≡ true
    among q h = let x = has.all q.0 q.1 h in any_passes_from_place (pair_eq q) found x.0 q x.1 (equivalence.refl q)

    each : (q : ℕ × ℕ) → (b c : Bool) → pair_eq q (i, j) ≡ b → list_any (pair_eq q) qs ≡ c → (b || c) ≡ true → list_any (pair_eq q) found ≡ true
    each q true c e f h = rw (exact q (i, j) e) (among (i, j) n)
    each q false true e f h =
        let c = Contains-from_any exact q qs f in
        among q (near c.0 q (slice_get-get_or qs c.0 q c.1 ∙ ap (λ (x : ℕ × ℕ). Some x) c.2))
    each q false false e f h = absurd (clash false refl h)

    too_many : list_any (pair_eq (i, j)) qs ≡ false → ⊥
    too_many none =
        let l = length-le_from_is_member equivalence ((i, j) ∷ qs) found (distinct qs (i, j) rising none)
        (λ q m. each q (pair_eq q (i, j)) (list_any (pair_eq q) qs) refl refl m) in
        omega arith

    by : (b : Bool) → list_any (pair_eq (i, j)) qs ≡ b → (k : ℕ) × (slice_get qs k ≡ Some (i, j))
    by true e =
        let c = Contains-from_any exact (i, j) qs e in
        (c.0, slice_get-get_or qs c.0 (i, j) c.1 ∙ ap (λ (x : ℕ × ℕ). Some x) c.2)
    by false e = absurd (too_many e)
