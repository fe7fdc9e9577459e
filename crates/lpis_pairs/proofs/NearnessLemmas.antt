-- Near pairs as the code reads them: i and j are numbers of triangles, and t and u what it reads there.
use Rattle.std.specs.Option.{option_map}
use Rattle.std.proofs.Common.{◌≡◌, ℕ, zero, suc, ◌-◌, ◌<◌, Bool, IsTrue, not, true, false, List, [], ◌∷◌, length, map, get_or, Option, Some, refl, ap, sym, ◌∙◌, arith, slice_get}
use Rattle.lpis_pairs.proofs.Common.{get_or_from_slice_get, Extent, extent_of, Triangle, IsNear}
use Rattle.std.proofs.lemmas.Option.{slice_get-map, slice_get_read}
use Rattle.lpis_points.specs.Triangles.{are_apart}
use Rattle.lpis_pairs.specs.private.Sweeping.{width_of}

-- i and j, with i below j, are a near pair where the triangles read there are not apart
pub near_as_read : (ts : List Triangle) (i j : ℕ) (t u : Triangle) → i < j → j < length ts → t ≡ get_or ts i t → u ≡ get_or ts j u → are_apart t u ≡ false → IsNear ts i j
near_as_read ts i j t u r l e f n = record {
  rising = r;
  t = t;
  u = u;
  at_i = slice_get_read ts (length ts) i t refl (omega arith) e;
  at_j = slice_get_read ts (length ts) j u refl l f;
  near = n;
}

not_near : (ts : List Triangle) (i j : ℕ) (t u : Triangle) → i < length ts → j < length ts → t ≡ get_or ts i t → u ≡ get_or ts j u → are_apart t u ≡ true → IsNear ts i j → ⊥
not_near ts i j t u l m e f n h =
    let a : Some h.t ≡ Some t = sym h.at_i ∙ slice_get_read ts (length ts) i t refl l e in
    let b : Some h.u ≡ Some u = sym h.at_j ∙ slice_get_read ts (length ts) j u refl m f in
    let g : are_apart h.t h.u ≡ false = h.near in
    cc

-- what the test answers, where i is below j
pub near_test_decided : (ts : List Triangle) (i j : ℕ) (t u : Triangle) (r : Bool) → r ≡ not (are_apart t u) → i < j
    → j < length ts → t ≡ get_or ts i t → u ≡ get_or ts j u → (IsTrue r → IsNear ts i j) × (IsNear ts i j → IsTrue r)
near_test_decided ts i j t u r e l m f g = (λ h. near_as_read ts i j t u l m f g (opposite (are_apart t u) (sym e ∙ h)), λ n. by_case r refl n)
  where
    opposite : (b : Bool) → not b ≡ true → b ≡ false
    opposite true k = absurd (cc)
    opposite false k = refl

    other : (b : Bool) → false ≡ not b → b ≡ true
    other true k = refl
    other false k = absurd (cc)

    by_case : (b : Bool) → r ≡ b → IsNear ts i j → IsTrue r
    by_case true k n = k
    by_case false k n = absurd (not_near ts i j t u (omega arith) m f g (other (are_apart t u) (sym k ∙ e)) n)

-- the extent that is read at the number of a triangle is the triangle's
pub extent_read : (ts : List Triangle) (xs : List Extent) (i : ℕ) (t : Triangle) (d : Extent) → xs ≡ map extent_of ts
    → slice_get ts i ≡ Some t → get_or xs i d ≡ extent_of t
extent_read ts xs i t d e there =
    get_or_from_slice_get xs i (extent_of t) d
    (ap (λ (ys : List Extent). slice_get ys i) e ∙ slice_get-map extent_of ts i ∙ ap (λ (o : Option Triangle). option_map extent_of o) there)

item_at : {A : Type 0} (xs : List A) (i : ℕ) → i < length xs → (x : A) × (slice_get xs i ≡ Some x)
item_at [] i l = absurd (omega arith)
item_at (x ∷ xs) zero l = (x, refl)
item_at (x ∷ xs) (suc i) l = item_at xs i (omega arith)

-- how wide the box is that is read there
pub width_read : (ts : List Triangle) (xs : List Extent) (i : ℕ) (d : Extent) → xs ≡ map extent_of ts → i < length ts
    → width_of (slice_get ts i) ≡ (get_or xs i d).right - (get_or xs i d).left
width_read ts xs i d e l =
    let x = item_at ts i l in
    rw (x.1, extent_read ts xs i x.0 d e x.1) refl
