-- Laws of sums over edges, as statements.
use Rattle.std.specs.Prelude.{◌≡◌, ℤ, List, All}
use Rattle.lpis_points.specs.declared.point.Point.{Point}
use Rattle.lpis_points.specs.Plane.{RationalPoint, crossing, shoelace_term, same_point}
use Rattle.lpis_points.specs.Chain.{edge_sum, net_count, SameNet, IsOdd}

-- the chain lemma: lists of edges with the same net counts have the same sum of every function of
-- an edge that changes sign when the edge is reversed and is 0 on an edge from a point to itself
abbrev pub ChainLemma : Type 0
ChainLemma = (f : Point → Point → ℤ) → IsOdd f → (es fs : List (Point × Point))
    → SameNet same_point es fs → edge_sum f es ≡ edge_sum f fs

-- the crossing by a point is such a function
abbrev pub CrossingsAreOdd : Type 0
CrossingsAreOdd = (p : RationalPoint) → IsOdd (λ a b. crossing a b p)

-- and so is the shoelace term
abbrev pub ShoelaceTermsAreOdd : Type 0
ShoelaceTermsAreOdd = IsOdd shoelace_term

-- net counts need comparing only at the edges of the two lists
abbrev pub NetIsOfItsEdges : Type 0
NetIsOfItsEdges =
    (es fs : List (Point × Point))
    → All (λ (e : Point × Point). net_count same_point e.0 e.1 es ≡ net_count same_point e.0 e.1
    fs) es → All (λ (e : Point × Point). net_count same_point e.0 e.1 es ≡ net_count same_point
    e.0 e.1 fs) fs → SameNet same_point es fs
