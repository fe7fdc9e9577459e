-- The crossing by a point and the shoelace term change sign with the edge.
use Rattle.std.proofs.Common.{◌≤◌, negsuc, nat_abs, ◌⊎◌, ◌≡◌, ℤ, pos, ◌-ℤ◌, ◌*ℤ◌, neg_ℤ, ap, ◌∙◌, arith}
use Rattle.lpis_points.proofs.Common.{ints, Point, RationalPoint, orient_at, crossing, crossing_of}
use Rattle.lpis_points.specs.Plane.{shoelace_term}
use Rattle.lpis_points.specs.Chain.{IsOdd}
use Rattle.lpis_points.proofs.IntRingLemmas.{con, ◌⊖◌, ring}
use Rattle.lpis_points.proofs.UnknownsLemmas.{ax, ay, bx, by_, unknowns_of, side}

less : (x : ℤ) → pos 0 -ℤ x ≡ neg_ℤ x
less x = omega (arith, ints)

orient_at-reversed : (a b : Point) (p : RationalPoint) → orient_at b a p ≡ neg_ℤ (orient_at a b p)
unfolding orient_at
orient_at-reversed a b p = ring (unknowns_of a b a p a a (pos 0)) (side bx by_ ax ay) (con (pos 0) ⊖ side ax ay bx by_) tt ∙ less (orient_at a b p)

crossing_of-reversed : (s t y o : ℤ) → crossing_of t s y (neg_ℤ o) ≡ neg_ℤ (crossing_of s t y o)
crossing_of-reversed s t y o = grind (arith, ints)

crossing_of_loop : (s y o : ℤ) → crossing_of s s y o ≡ pos 0
crossing_of_loop s y o = grind (arith, ints)

-- the crossing by a point changes sign when the edge is reversed, and is 0 on an edge from a point to itself
pub crossing-odd : (p : RationalPoint) → IsOdd (λ a b. crossing a b p)
unfolding crossing
crossing-odd p = record {
  reversed = λ a b. ap (λ (z : ℤ). crossing_of (b.y *ℤ p.d) (a.y *ℤ p.d) p.y z) (orient_at-reversed a b p) ∙ crossing_of-reversed (a.y *ℤ p.d) (b.y *ℤ p.d) p.y (orient_at a b p);
  loop = λ a. crossing_of_loop (a.y *ℤ p.d) p.y (orient_at a a p);
}

-- the shoelace term changes sign when the edge is reversed, and is 0 on an edge from a point to itself
pub shoelace_term-odd : IsOdd shoelace_term
shoelace_term-odd = record { reversed = λ a b. omega (arith, ints); loop = λ a. omega (arith, ints) }

crossing_of-cases : (s t y o : ℤ) → (crossing_of s t y o ≡ pos 0) ⊎ ((crossing_of s t y o ≡ pos 1) ⊎ (crossing_of s t y o ≡ negsuc 0))
crossing_of-cases s t y o = grind (arith, ints)

-- a crossing is 0, 1 or -1
pub crossing-cases : (a b : Point) (p : RationalPoint) → (crossing a b p ≡ pos 0) ⊎ ((crossing a b p ≡ pos 1) ⊎ (crossing a b p ≡ negsuc 0))
unfolding crossing
crossing-cases a b p = crossing_of-cases (a.y *ℤ p.d) (b.y *ℤ p.d) p.y (orient_at a b p)

-- a crossing is at most 1 in absolute value
pub crossing-small : (a b : Point) (p : RationalPoint) → nat_abs (crossing a b p) ≤ 1
crossing-small a b p = by (crossing a b p) (crossing-cases a b p)
  where
    by : (c : ℤ) → (c ≡ pos 0) ⊎ ((c ≡ pos 1) ⊎ (c ≡ negsuc 0)) → nat_abs c ≤ 1
    by c e = grind (arith, ints)
