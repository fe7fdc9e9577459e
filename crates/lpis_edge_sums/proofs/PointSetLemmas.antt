-- Points that are sorted: a binary search finds exactly those that are among them.
use Rattle.std.proofs.Common.{◌≡◌, ◌∙◌, ◌<◌, ◌≤◌, ◌⊎◌, inl, inr, ◌↔◌, ℕ, Bool, true, false, List, ◌++◌, length, get_or, Result, Ok, Err, Less, Equal, Greater, IsTrue, refl, sym, ap, subst, arith}
use Rattle.std.proofs.Common.{is_ok, Contains, IsSorted}
use Rattle.lpis_edge_sums.proofs.Common.{Point, point_order}
use Rattle.lpis_points.specs.declared.triangle.Triangle.{Triangle}
use Rattle.lpis_edge_sums.specs.Making.{HaveCorners, HasCorners}
use Rattle.std.specs.List.Sorted.{IsBinarySearchResult, IsSearchInRange, IsPartitionPoint}
use Rattle.std.proofs.lemmas.Cmp.{tied_itself}
use Rattle.std.proofs.lemmas.List.Elements.{All-append}
use Rattle.std.proofs.lemmas.List.Sorted.{searchable_from_sorted}
use Rattle.lpis_edge_sums.proofs.PointOrderLemmas.{point_total, same_in_order}
use Rattle.lpis_edge_sums.proofs.CountingLemmas.{all_left, all_right}

-- what is among sorted points lies neither before nor after the index to insert it
unsplit : (xs : List Point) (x : Point) (i : ℕ) → IsPartitionPoint (λ y. point_order y x ≡ Less) (λ y. point_order y x ≡ Greater) xs i → Contains xs x → ⊥
unsplit xs x i h w = elim (by_index w.0 i) [
  | inl l ↦ less (sym (itself xs x w) ∙ h.0 w.0 x (omega arith) l)
  | inr l ↦ greater (sym (itself xs x w) ∙ h.1 w.0 x l w.1)
]
  where
    by_index : (k i : ℕ) → (k < i) ⊎ (i ≤ k)
    by_index k i = grind arith

    itself : (ys : List Point) (y : Point) (v : Contains ys y) → point_order (get_or ys v.0 y) y ≡ Equal
    itself ys y v = ap (λ (z : Point). point_order z y) v.2 ∙ tied_itself point_total y

    less : Equal ≡ Less → ⊥
    less f = cc

    greater : Equal ≡ Greater → ⊥
    greater f = cc

-- a binary search finds exactly what is among them
pub search_finds_members : (xs : List Point) (x : Point) (r : Result ℕ ℕ) → IsSorted point_order xs → IsSearchInRange r (length xs)
    → IsBinarySearchResult (λ y. point_order y x) xs r → IsTrue (is_ok r) ↔ Contains xs x
search_finds_members xs x (Ok i) s b h = (λ e. (i, b, same_in_order (get_or xs i x) x (h x)), λ w. refl)
search_finds_members xs x (Err i) s b h = (λ e. absurd (never e), λ w. absurd (unsplit xs x i (h (searchable_from_sorted point_total (λ (p : Point). p) xs x s)) w))
  where
    never : false ≡ true → ⊥
    never e = cc

-- the corners of two lists of triangles
pub both_have : (points : List Point) (ts us : List Triangle) (b : Bool) → HaveCorners points ts → (IsTrue b ↔ HaveCorners points us) → IsTrue b ↔ HaveCorners points (ts ++ us)
both_have points ts us b h k = (λ e. All-append (HasCorners points) ts us h (k.0 e), λ w. k.1 (all_right (HasCorners points) ts us w))

-- where not all corners of the first list of triangles are among the points, not all of both lists are
pub first_lacks : (points : List Point) (ts us : List Triangle) → (HaveCorners points ts → ⊥) → IsTrue false ↔ HaveCorners points (ts ++ us)
first_lacks points ts us h = (λ e. absurd (never e), λ w. absurd (h (all_left (HasCorners points) ts us w)))
  where
    never : false ≡ true → ⊥
    never e = cc

-- sets of the same points have the same corners
have_same : (points others : List Point) (ts : List Triangle) → ((p : Point) → Contains points p ↔ Contains others p) → HaveCorners points ts ↔ HaveCorners others ts
unfolding HasCorners
have_same points others ts h = (
  λ w k d l. let v = w k d l in ((h (get_or ts k d).a).0 v.0, (h (get_or ts k d).b).0 v.1, (h (get_or ts k d).c).0 v.2),
  λ w k d l. let v = w k d l in ((h (get_or ts k d).a).1 v.0, (h (get_or ts k d).b).1 v.1, (h (get_or ts k d).c).1 v.2),
)

-- what a search in the set tells of points and triangles that equal those that it was made of and asked for
pub told_of : (b : Bool) (set points others : List Point) (ts us : List Triangle)
    → ((p : Point) → Contains set p ↔ Contains points p) → points ≡ others → ts ≡ us → (IsTrue b ↔ HaveCorners set ts)
    → IsTrue b ↔ HaveCorners others us
told_of b set points others ts us same e f h =
    let on_points : IsTrue b ↔ HaveCorners points ts = (λ t. (have_same set points ts same).0 (h.0 t), λ w. h.1 ((have_same set points ts same).1 w)) in
    subst (λ (xs : List Point). IsTrue b ↔ HaveCorners xs us) e (subst (λ (vs : List Triangle). IsTrue b ↔ HaveCorners points vs) f on_points)
