-- Coordinates and points are equal where their numbers are.
use Rattle.std.proofs.Common.{◌≡◌, ℕ, ◌-◌, ℤ, true, List, length, Option, Some, None, Result, Ok, Err, refl, ap, subst, slice_get}
use Rattle.lpis_wkt.proofs.Common.{Point, WktCode, Coordinate, number, coordinate_in_range, is_closed}
use lib.Dec.{T_prop}
use Rattle.lpis_points.proofs.Shared.{same_point-equality}
use Rattle.lpis_points.specs.Range.{IsInRange}
use Rattle.lpis_wkt.specs.private.Coordinates.{with_range, number-in_range}
use Rattle.lpis_wkt.specs.private.Machine.{same_end}

in_range_prop : (z : ℤ) → IsProp (IsInRange z)
in_range_prop z = hlevel T_prop

abbrev made : (z : ℤ) → IsInRange z → Coordinate
made z h = record { value = z; in_range = h }

made-same : (x y : ℤ) → x ≡ y → (h : IsInRange x) (k : IsInRange y) → made x h ≡ made y k
made-same x y e = subst (λ (v : ℤ). (h : IsInRange x) (k : IsInRange v) → made x h ≡ made v k) e (λ h k. ap (λ (r : IsInRange x). made x r) (in_range_prop x h k))

coordinate_eq : (a b : Coordinate) → a.value ≡ b.value → a ≡ b
coordinate_eq a b e = made-same a.value b.value e a.in_range b.in_range

with_range-ok : (r : Result ℤ WktCode) (h : (z : ℤ) → r ≡ Ok z → IsInRange z) (c : Coordinate) → r ≡ Ok c.value → with_range r h ≡ Ok c
with_range-ok (Ok z) h c e = let same : z ≡ c.value = cc in ap Ok (coordinate_eq (made z (h z refl)) c same)
with_range-ok (Err f) h c e = cc

ok-with_range : (r : Result ℤ WktCode) (h : (z : ℤ) → r ≡ Ok z → IsInRange z) (c : Coordinate) → with_range r h ≡ Ok c → r ≡ Ok c.value
ok-with_range (Ok z) h c e = let same : made z (h z refl) ≡ c = cc in ap (λ (v : Coordinate). Ok v.value) same
ok-with_range (Err f) h c e = cc

with_range-err : (r : Result ℤ WktCode) (h : (z : ℤ) → r ≡ Ok z → IsInRange z) (f : WktCode) → r ≡ Err f → with_range r h ≡ Err f
with_range-err (Ok z) h f e = cc
with_range-err (Err g) h f e = cc

err-with_range : (r : Result ℤ WktCode) (h : (z : ℤ) → r ≡ Ok z → IsInRange z) (f : WktCode) → with_range r h ≡ Err f → r ≡ Err f
err-with_range (Ok z) h f e = cc
err-with_range (Err g) h f e = cc

-- a word that spells the number of a coordinate spells the coordinate
pub coordinate-ok : (w : List ℕ) (c : Coordinate) → number w ≡ Ok c.value → coordinate_in_range w ≡ Ok c
unfolding coordinate_in_range
coordinate-ok w c e = with_range-ok (number w) (number-in_range w) c e

-- a word that spells a coordinate spells its number
pub ok-coordinate : (w : List ℕ) (c : Coordinate) → coordinate_in_range w ≡ Ok c → number w ≡ Ok c.value
unfolding coordinate_in_range
ok-coordinate w c e = ok-with_range (number w) (number-in_range w) c e

-- what is wrong with the number of a word is wrong with its coordinate
pub coordinate-err : (w : List ℕ) (code : WktCode) → number w ≡ Err code → coordinate_in_range w ≡ Err code
unfolding coordinate_in_range
coordinate-err w code e = with_range-err (number w) (number-in_range w) code e

-- what is wrong with the coordinate of a word is wrong with its number
pub err-coordinate : (w : List ℕ) (code : WktCode) → coordinate_in_range w ≡ Err code → number w ≡ Err code
unfolding coordinate_in_range
err-coordinate w code e = err-with_range (number w) (number-in_range w) code e

-- equal ends

same_end-true : (a b : Option Point) → same_end a b ≡ true → a ≡ b
same_end-true (Some p) (Some q) h = ap Some ((same_point-equality p q).0 h)
same_end-true None None h = refl
same_end-true _ _ h = cc

same_end-refl : (a : Option Point) → same_end a a ≡ true
same_end-refl (Some p) = (same_point-equality p p).1 refl
same_end-refl None = refl

-- where the points of a ring pass the test for a closed one, the last is the first
pub is_closed-true : (ps : List Point) → is_closed ps ≡ true → slice_get ps (length ps - 1) ≡ slice_get ps 0
is_closed-true ps h = same_end-true _ _ h

-- where the last point of a ring is the first, the points pass the test for a closed one
pub true-is_closed : (ps : List Point) → slice_get ps (length ps - 1) ≡ slice_get ps 0 → is_closed ps ≡ true
true-is_closed ps e = rw e (same_end-refl (slice_get ps 0))
