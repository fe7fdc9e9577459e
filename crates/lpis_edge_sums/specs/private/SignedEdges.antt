-- Edges with a sign, and the sums of their signs.
use Rattle.std.specs.Prelude.{◌≡◌, ℕ, ◌+◌, ◌<◌, ℤ, pos, negsuc, ◌+ℤ◌, neg_ℤ, Bool, true, false}
use Rattle.std.specs.Prelude.{◌&&◌, cond, List, slice_get, Option, Some, None, not, ◌⊎◌}
use Rattle.std.specs.declared.cmp.Ordering.{Ordering}
use Rattle.std.specs.Ordering.{is_lt, ordering_then, int_cmp}
use Rattle.lpis_points.specs.Sums.{int_sum_by}
use Rattle.lpis_points.specs.declared.point.Point.{Point}
use Rattle.lpis_points.specs.Plane.{same_point}
use Rattle.lpis_points.specs.Chain.{net_count}
use Rattle.lpis_edge_sums.specs.declared.signed.SignedEdge.{SignedEdge}

-- the sign of an edge
abbrev pub edge_sign : SignedEdge → ℤ
edge_sign x = cond x.forward (pos 1) (negsuc 0)

-- the edge lies between a and b
abbrev pub is_at : Point → Point → SignedEdge → Bool
is_at a b x = same_point a x.low && same_point b x.high

-- the signs of the edges between a and b
abbrev pub sum_at : Point → Point → List SignedEdge → ℤ
sum_at a b xs = int_sum_by (λ (x : SignedEdge). cond (is_at a b x) (edge_sign x) (pos 0)) xs

abbrev pub SumsAreZero : List SignedEdge → Type 0
SumsAreZero xs = (a b : Point) → sum_at a b xs ≡ pos 0

abbrev pub same_ends : SignedEdge → SignedEdge → Bool
same_ends x y = is_at x.low x.high y

-- edges with the same ends stand together
abbrev pub IsGrouped : List SignedEdge → Type 0
IsGrouped xs =
    (i j k : ℕ) (x y z : SignedEdge) → i < j → j < k → slice_get xs i ≡ Some x
    → slice_get xs j ≡ Some y → slice_get xs k ≡ Some z → same_ends x z ≡ true
    → same_ends x y ≡ true

-- the element after k, if there is one, has other ends
abbrev pub EndsRun : List SignedEdge → ℕ → Type 0
EndsRun xs k = (x y : SignedEdge) → slice_get xs k ≡ Some x → slice_get xs (k + 1) ≡ Some y
    → same_ends x y ≡ false

-- so many points are looked for one by one
abbrev pub few : ℕ
few = 16

-- the derived order of points: by x, and then by y
abbrev pub point_order : Point → Point → Ordering
point_order a b = ordering_then (int_cmp a.x b.x) (int_cmp a.y b.y)

abbrev pub is_low : Point → Point → Bool
is_low a b = is_lt (point_order a b)

-- the edge from a to b with its lesser point first, turned where that is b
abbrev pub IsSigned : Point → Point → Bool → Option SignedEdge → Type 0
IsSigned a b forward None = (is_low a b ≡ false) × (is_low b a ≡ false)
IsSigned a b forward (Some e) =
    ((is_low a b ≡ true) × (e.low ≡ a) × (e.high ≡ b) × (e.forward ≡ forward))
    ⊎ ((is_low b a ≡ true) × (e.low ≡ b) × (e.high ≡ a) × (e.forward ≡ not forward))

-- the number, or its negative
abbrev pub signed_by : Bool → ℤ → ℤ
signed_by added z = cond added z (neg_ℤ z)

-- the net count between two points, given where the lesser is first
abbrev pub low_count : Point → Point → List (Point × Point) → ℤ
low_count a b es = cond (is_low a b) (net_count same_point a b es) (pos 0)

-- the sums grow by the net counts of these edges, or shrink by them
pub record Grows (added : Bool) (es : List (Point × Point)) (old new : List SignedEdge) : Type 0
  where
    pub sums : (a b : Point) → sum_at a b new ≡ sum_at a b old +ℤ signed_by added (low_count a b es)
