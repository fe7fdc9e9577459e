-- The pairs of triangles that are not apart.
use Rattle.std.specs.Prelude.{◌≡◌, ℕ, ◌<◌, ◌⊎◌, false, List, map, slice_get, Some}
use Rattle.std.specs.Borrow.{Bor}
use Rattle.lpis_points.specs.declared.triangle.Triangle.{Triangle}
use Rattle.lpis_points.specs.Triangles.{are_apart}

-- triangles that are read where they stand
abbrev pub seen : List (Bor Triangle) → List Triangle
seen triangles = map (λ (t : Bor Triangle). t.now) triangles

-- i is below j, and the triangles of these numbers are not apart
pub record IsNear (ts : List Triangle) (i j : ℕ) : Type 0 where
  pub rising : i < j
  pub t : Triangle
  pub u : Triangle
  pub at_i : slice_get ts i ≡ Some t
  pub at_j : slice_get ts j ≡ Some u
  pub near : are_apart t u ≡ false

-- the pair (i, j) stands before (i', j')
abbrev pub IsBelow : ℕ → ℕ → ℕ → ℕ → Type 0
IsBelow i j i' j' = (i < i') ⊎ ((i ≡ i') × (j < j'))

-- the list of all such pairs, and nothing else, ascending
pub record IsNearList (ts : List Triangle) (ps : List (ℕ × ℕ)) : Type 0 where
  pub ascending : (k m : ℕ) (p q : ℕ × ℕ) → k < m → slice_get ps k ≡ Some p
      → slice_get ps m ≡ Some q → IsBelow p.0 p.1 q.0 q.1
  pub near : (k : ℕ) (p : ℕ × ℕ) → slice_get ps k ≡ Some p → IsNear ts p.0 p.1
  pub all : (i j : ℕ) → IsNear ts i j → (k : ℕ) × (slice_get ps k ≡ Some (i, j))

-- the list of all such pairs, and nothing else, in whatever order, each once or more
pub record HasNearPairs (ts : List Triangle) (ps : List (ℕ × ℕ)) : Type 0 where
  pub near : (k : ℕ) (p : ℕ × ℕ) → slice_get ps k ≡ Some p → IsNear ts p.0 p.1
  pub all : (i j : ℕ) → IsNear ts i j → (k : ℕ) × (slice_get ps k ≡ Some (i, j))
