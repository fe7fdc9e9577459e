-- Sorted edges are grouped.
use Rattle.std.proofs.Common.{◌≡◌, ℕ, ◌<◌, ◌≤◌, true, false, List, Some, ap₂, sym, ◌∙◌, arith, Ordering, is_lt, slice_get, IsSorted}
use Rattle.lpis_edge_sums.proofs.Common.{slice_get_within, Point, SignedEdge, IsGrouped, point_order}
use Rattle.std.proofs.lemmas.Option.{get_or_from_slice_get}
use Rattle.std.specs.Ordering.{ordering_then, bool_cmp}
use Rattle.std.specs.Cmp.{IsTotalOrder, bool_cmp_total}
use Rattle.std.proofs.lemmas.Cmp.{on_total, then_total}
use Rattle.std.proofs.lemmas.List.Sorted.{sorted_far, ranks_by}
use Rattle.lpis_edge_sums.specs.private.SignedEdges.{same_ends}
use Rattle.lpis_edge_sums.proofs.PointOrderLemmas.{both_same, point_total, point_tie}

-- the derived order of signed edges: by the lesser point, then by the greater, then by the direction
abbrev pub edge_order : SignedEdge → SignedEdge → Ordering
edge_order x y = ordering_then (point_order x.low y.low) (ordering_then (point_order x.high y.high) (bool_cmp x.forward y.forward))

edge_total : IsTotalOrder edge_order
edge_total = then_total (on_total (λ (x : SignedEdge). x.low) point_total) (then_total (on_total (λ (x : SignedEdge). x.high) point_total) (on_total (λ (x : SignedEdge). x.forward) bool_cmp_total))

-- edges of which neither is less than one with the ends of the other
edge_tie : (x y z : SignedEdge) → is_lt (edge_order y x) ≡ false → is_lt (edge_order z y) ≡ false → x.low ≡ z.low → x.high ≡ z.high → same_ends x y ≡ true
edge_tie x y z h k e f =
    let k' : is_lt
    (ordering_then (point_order x.low y.low)
    (ordering_then (point_order x.high y.high) (bool_cmp z.forward y.forward))) ≡ false =
    ap₂
    (λ (p q : Point). is_lt
    (ordering_then (point_order p y.low) (ordering_then (point_order q y.high) (bool_cmp z.forward y.forward)))) e f
    ∙ k in
    let r = point_tie x.low y.low (ordering_then (point_order x.high y.high) (bool_cmp z.forward y.forward)) (ordering_then (point_order y.high x.high) (bool_cmp y.forward x.forward)) k' h in
    let s = point_tie x.high y.high (bool_cmp z.forward y.forward) (bool_cmp y.forward x.forward) r.1 r.2 in
    (both_same x.low y.low x.high y.high).1 (r.0, s.0)

not_less : (xs : List SignedEdge) → IsSorted edge_order xs → (i j : ℕ) (x y : SignedEdge) → i < j → slice_get xs i ≡ Some x → slice_get xs j ≡ Some y → is_lt (edge_order y x) ≡ false
not_less xs s i j x y l e f =
    let far = sorted_far (λ a b. is_lt (edge_order a b)) (ranks_by edge_total (λ (a : SignedEdge). a)) xs s i j x (weaker l) (slice_get_within xs j y f) in
    ap₂ (λ (a b : SignedEdge). is_lt (edge_order a b)) (sym (get_or_from_slice_get xs j y x f)) (sym (get_or_from_slice_get xs i x x e)) ∙ far
  where
    weaker : i < j → i ≤ j
    weaker l = omega arith

-- in sorted edges those with the same ends stand together
pub sorted_is_grouped : (xs : List SignedEdge) → IsSorted edge_order xs → IsGrouped xs
sorted_is_grouped xs s i j k x y z l m e f g h =
    let r = (both_same x.low z.low x.high z.high).0 h in
    edge_tie x y z (not_less xs s i j x y l e f) (not_less xs s j k y z m f g) r.0 r.1
