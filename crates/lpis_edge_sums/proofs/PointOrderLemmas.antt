-- Points: when they are equal, and which of two is the lesser.
use Rattle.std.proofs.Common.{◌≡◌, ℤ, int_lt, Bool, true, false, ◌&&◌, cond, ◌↔◌, ap, ap₂, sym, refl, ◌∙◌, arith, Ordering, Less, Equal, Greater, is_lt, int_cmp}
use Rattle.lpis_edge_sums.proofs.Common.{ints, Point, same_point, point_order}
use Rattle.std.specs.Ordering.{ordering_reverse, ordering_then}
use Rattle.std.specs.Cmp.{IsTotalOrder}
use Rattle.std.proofs.lemmas.Cmp.{int_cmp_total, on_total, then_total}
use Rattle.lpis_points.proofs.Shared.{same_point-equality, point_eq}
use Rattle.lpis_edge_sums.specs.private.SignedEdges.{is_low}

-- ---- equal points
-- two pairs of equal points
pub both_same : (a b c d : Point) → ((same_point a b && same_point c d) ≡ true) ↔ ((a ≡ b) × (c ≡ d))
both_same a b c d = (
  λ h. let r = parts (same_point a b) (same_point c d) h in ((same_point-equality a b).0 r.0, (same_point-equality c d).0 r.1),
  λ e. ap₂ (λ (p q : Bool). p && q) ((same_point-equality a b).1 e.0) ((same_point-equality c d).1 e.1),
)
  where
    parts : (p q : Bool) → (p && q) ≡ true → (p ≡ true) × (q ≡ true)
    parts true q e = (refl, e)
    parts false q e = cc

-- ---- the order of points
-- the derived order of points is total
pub point_total : IsTotalOrder point_order
point_total = then_total (on_total (λ (p : Point). p.x) int_cmp_total) (on_total (λ (p : Point). p.y) int_cmp_total)

-- where a is less than b, b is not less than a
pub low_asym : (a b : Point) → is_low a b ≡ true → is_low b a ≡ false
low_asym a b h = ap is_lt (point_total.antisymm b a) ∙ turned (point_order a b) h
  where
    turned : (o : Ordering) → is_lt o ≡ true → is_lt (ordering_reverse o) ≡ false
    turned Less e = refl
    turned Equal e = cc
    turned Greater e = cc

equal_of : (a b : ℤ) → int_lt a b ≡ false → int_lt b a ≡ false → a ≡ b
equal_of a b e f = grind (arith, ints)

-- neither is less: the first parts are equal, and neither rest is less
tie : (a b : ℤ) (o p : Ordering) → is_lt (ordering_then (int_cmp a b) o) ≡ false → is_lt (ordering_then (int_cmp b a) p) ≡ false → (a ≡ b) × (is_lt o ≡ false) × (is_lt p ≡ false)
tie a b o p h k = by (int_lt a b) (int_lt b a) refl refl h k
  where
    by : (s t : Bool) → int_lt a b ≡ s → int_lt b a ≡ t → is_lt (ordering_then (cond s Less (cond t Greater Equal)) o)
        ≡ false → is_lt (ordering_then (cond t Less (cond s Greater Equal)) p) ≡ false → (a ≡ b) × (is_lt o ≡ false)
        × (is_lt p ≡ false)
    by true t e f h k = cc
    by false true e f h k = cc
    by false false e f h k = (equal_of a b e f, h, k)

assoc : (o p q : Ordering) → ordering_then (ordering_then o p) q ≡ ordering_then o (ordering_then p q)
assoc Greater p q = refl
assoc _ _ _ = refl

-- points of which neither is less, with what follows
pub point_tie : (a b : Point) (o p : Ordering) → is_lt (ordering_then (point_order a b) o) ≡ false → is_lt (ordering_then (point_order b a) p) ≡ false → (a ≡ b) × (is_lt o ≡ false) × (is_lt p ≡ false)
point_tie a b o p h k =
    let r = tie a.x b.x (ordering_then (int_cmp a.y b.y) o) (ordering_then (int_cmp b.y a.y) p)
    (ap is_lt (sym (assoc (int_cmp a.x b.x) (int_cmp a.y b.y) o)) ∙ h)
    (ap is_lt (sym (assoc (int_cmp b.x a.x) (int_cmp b.y a.y) p)) ∙ k) in
    let s = tie a.y b.y o p r.1 r.2 in
    (point_eq a b r.0 s.0, s.1, s.2)

-- points of which neither is less are equal
pub point_tie_alone : (a b : Point) → is_low a b ≡ false → is_low b a ≡ false → a ≡ b
point_tie_alone a b h k = (point_tie a b Equal Equal (ap is_lt (last (point_order a b)) ∙ h) (ap is_lt (last (point_order b a)) ∙ k)).0
  where
    last : (o : Ordering) → ordering_then o Equal ≡ o
    last Less = refl
    last Equal = refl
    last Greater = refl

-- points that the order has as equal are equal
pub same_in_order : (a b : Point) → point_order a b ≡ Equal → a ≡ b
same_in_order a b e = point_tie_alone a b (ap is_lt e) (ap is_lt (point_total.antisymm b a ∙ ap ordering_reverse e))
