-- The number of edges with a crossing other than 0, and the sum of their crossings.
use Rattle.std.proofs.Common.{◌≡◌, ℕ, suc, ◌+◌, ◌*◌, ◌%◌, ℤ, pos, negsuc, ◌+ℤ◌, nat_abs, not, cond, int_eq, List, [], ◌∷◌, ◌⊎◌, inl, inr, ◌↔◌, length, sym, refl, ◌∙◌, arith}
use Rattle.lpis_rings.proofs.Common.{ints, Point, Member, edge_turns, edges_of}
use Rattle.lpis_points.specs.Plane.{RationalPoint, crossing}
use Rattle.lpis_points.proofs.Shared.{crossing-cases}
use Rattle.lpis_rings.specs.Edges.{crossed, turns, Contains}
use Rattle.lpis_rings.specs.Map.{IsOneOrNone}

-- the sum of the crossings, and twice the edges crossed by -1, are the number of edges crossed
even_rest : (es : List (Point × Point)) (p : RationalPoint) → (k : ℕ) × (edge_turns es p +ℤ pos (2 * k) ≡ pos (length (crossed es p)))
even_rest [] p = (0, refl)
even_rest (e ∷ es) p = by (crossing e.0 e.1 p) (crossing-cases e.0 e.1 p) (edge_turns es p) (crossed es p) (even_rest es p)
  where
    by : (c : ℤ) → (c ≡ pos 0) ⊎ ((c ≡ pos 1) ⊎ (c ≡ negsuc 0)) → (x : ℤ) (fs : List (Point × Point)) → (k : ℕ)
        × (x +ℤ pos (2 * k) ≡ pos (length fs)) → (k : ℕ)
        × ((c +ℤ x) +ℤ pos (2 * k) ≡ pos (length (cond (not (int_eq c (pos 0))) (e ∷ fs) fs)))
    by c (inl h) x fs r = (r.0, rw h (none x (r.0) (length fs) r.1))
      where
        none : (x : ℤ) (k n : ℕ) → x +ℤ pos (2 * k) ≡ pos n → (pos 0 +ℤ x) +ℤ pos (2 * k) ≡ pos n
        none x k n h = omega (arith, ints)
    by c (inr (inl h)) x fs r = (r.0, rw h (one x (r.0) (length fs) r.1))
      where
        one : (x : ℤ) (k n : ℕ) → x +ℤ pos (2 * k) ≡ pos n → (pos 1 +ℤ x) +ℤ pos (2 * k) ≡ pos (suc n)
        one x k n h = omega (arith, ints)
    by c (inr (inr h)) x fs r = (r.0 + 1, rw h (back x (r.0) (length fs) r.1))
      where
        back : (x : ℤ) (k n : ℕ) → x +ℤ pos (2 * k) ≡ pos n → (negsuc 0 +ℤ x) +ℤ pos (2 * (k + 1)) ≡ pos (suc n)
        back x k n h = omega (arith, ints)

same_parity : (x : ℤ) (n k : ℕ) → x +ℤ pos (2 * k) ≡ pos n → n % 2 ≡ nat_abs x % 2
same_parity x n k h = omega (arith, ints)

-- a polygon contains a point exactly where its turns round the point are odd
pub contains_by_odd_turns : (ms : List Member) (p : RationalPoint) → Contains ms p ↔ (nat_abs (turns ms p) % 2 ≡ 1)
contains_by_odd_turns ms p = (λ h. sym e ∙ h, λ h. e ∙ h)
  where
    r : (k : ℕ) × (turns ms p +ℤ pos (2 * k) ≡ pos (length (crossed (edges_of ms) p)))
    r = even_rest (edges_of ms) p

    e : length (crossed (edges_of ms) p) % 2 ≡ nat_abs (turns ms p) % 2
    e = same_parity (turns ms p) (length (crossed (edges_of ms) p)) r.0 r.1

-- where the turns round a point are 0 or 1, a polygon contains the point exactly if they are 1
pub contains_by_one_turn : (ms : List Member) (p : RationalPoint) → IsOneOrNone (turns ms p) → Contains ms p ↔ (turns ms p ≡ pos 1)
contains_by_one_turn ms p o = let c = contains_by_odd_turns ms p in (λ h. (by (turns ms p) o).0 (c.0 h), λ h. c.1 ((by (turns ms p) o).1 h))
  where
    by : (x : ℤ) → IsOneOrNone x → (nat_abs x % 2 ≡ 1) ↔ (x ≡ pos 1)
    by x (inl e) = (λ h. absurd (omega (arith, ints)), λ h. absurd (omega (arith, ints)))
    by x (inr e) = (λ h. e, λ h. omega (arith, ints))
