-- Edges that a point passes: both ends left of it, or both right of it.
use Rattle.std.proofs.Common.{◌≡◌, ℤ, pos, ◌+ℤ◌, ◌-ℤ◌, ◌*ℤ◌, ◌≤ℤ◌, ◌<ℤ◌, int_lt, cond, [], ◌∷◌, arith}
use Rattle.std.proofs.lemmas.Int.{ints, by_lt_z}
use Rattle.lpis_points.specs.declared.point.Point.{Point}
use Rattle.lpis_points.specs.Plane.{RationalPoint, orient_at, crossing}
use Rattle.lpis_points.proofs.Shared.{both_above, both_below, down_not_right, down_right, up_left, up_not_left, var, ◌⊕◌, ◌⊖◌, ◌⊗◌, ring}
use Rattle.lpis_points.proofs.Shared.{neg-mul-not_neg, neg-mul-not_pos, neg-mul-pos, not_neg_of_mul, not_pos_of_mul, pos-mul-not_neg, pos-mul-not_pos, pos-mul-pos}

weak : {x y : ℤ} → x <ℤ y → x ≤ℤ y
weak l = omega (arith, ints)

-- numbers times one above 0 keep their order
pub times_up : (a b d : ℤ) → pos 0 <ℤ d → a ≤ℤ b → (a *ℤ d) ≤ℤ (b *ℤ d)
times_up a b d h l = moved (a *ℤ d) (b *ℤ d) (d *ℤ (b -ℤ a)) (ring (a ∷ (b ∷ (d ∷ []))) (var 2 ⊗ (var 1 ⊖ var 0)) (var 1 ⊗ var 2 ⊖ var 0 ⊗ var 2) tt) (pos-mul-not_neg d (b -ℤ a) (weak h) (over a b l))
  where
    moved : (x y z : ℤ) → z ≡ y -ℤ x → pos 0 ≤ℤ z → x ≤ℤ y
    moved x y z e l = omega (arith, ints)

    over : (x y : ℤ) → x ≤ℤ y → pos 0 ≤ℤ (y -ℤ x)
    over x y l = omega (arith, ints)

-- ---- the side of an edge
-- d times the side, by the heights of the ends over the point and their ways to its right
side_sum : (a b : Point) (p : RationalPoint) → p.d *ℤ orient_at a b p ≡ (b.x *ℤ p.d -ℤ p.x) *ℤ (p.y -ℤ a.y *ℤ p.d) +ℤ (a.x *ℤ p.d -ℤ p.x) *ℤ (b.y *ℤ p.d -ℤ p.y)
unfolding orient_at
side_sum a b p =
    ring (a.x ∷ (a.y ∷ (b.x ∷ (b.y ∷ (p.x ∷ (p.y ∷ (p.d ∷ [])))))))
    (var 6 ⊗ ((var 2 ⊖ var 0) ⊗ (var 5 ⊖ var 1 ⊗ var 6) ⊖ (var 3 ⊖ var 1) ⊗ (var 4 ⊖ var 0 ⊗ var 6)))
    ((var 2 ⊗ var 6 ⊖ var 4) ⊗ (var 5 ⊖ var 1 ⊗ var 6) ⊕ (var 0 ⊗ var 6 ⊖ var 4) ⊗ (var 3 ⊗ var 6 ⊖ var 5)) tt

-- signs of the side of an edge whose ends are both left of the point, or both right of it
right_up : (o d u v s t : ℤ) → pos 0 <ℤ d → d *ℤ o ≡ u *ℤ s +ℤ v *ℤ t → u ≤ℤ pos 0 → v ≤ℤ pos 0 → pos 0 ≤ℤ s → pos 0 ≤ℤ t → o ≤ℤ pos 0
right_up o d u v s t h e k l m n = not_pos_of_mul d o h (sum (d *ℤ o) (u *ℤ s) (v *ℤ t) e (neg-mul-not_neg u s k m) (neg-mul-not_neg v t l n))
  where
    sum : (x y z : ℤ) → x ≡ y +ℤ z → y ≤ℤ pos 0 → z ≤ℤ pos 0 → x ≤ℤ pos 0
    sum x y z e k l = omega (arith, ints)

right_down : (o d u v s t : ℤ) → pos 0 <ℤ d → d *ℤ o ≡ u *ℤ s +ℤ v *ℤ t → u ≤ℤ pos 0 → v ≤ℤ pos 0 → s ≤ℤ pos 0 → t ≤ℤ pos 0 → pos 0 ≤ℤ o
right_down o d u v s t h e k l m n = not_neg_of_mul d o h (sum (d *ℤ o) (u *ℤ s) (v *ℤ t) e (neg-mul-not_pos u s k m) (neg-mul-not_pos v t l n))
  where
    sum : (x y z : ℤ) → x ≡ y +ℤ z → pos 0 ≤ℤ y → pos 0 ≤ℤ z → pos 0 ≤ℤ x
    sum x y z e k l = omega (arith, ints)

left_up : (o d u v s t : ℤ) → pos 0 <ℤ d → d *ℤ o ≡ u *ℤ s +ℤ v *ℤ t → pos 0 <ℤ u → pos 0 <ℤ v → pos 0 ≤ℤ s → pos 0 <ℤ t → pos 0 <ℤ o
left_up o d u v s t h e k l m n = by_lt_z (pos 0) o (λ q. q) (λ q. absurd (sum (d *ℤ o) (u *ℤ s) (v *ℤ t) e (pos-mul-not_neg u s (weak k) m) (pos-mul-pos v t l n) (pos-mul-not_pos d o (weak h) q)))
  where
    sum : (x y z : ℤ) → x ≡ y +ℤ z → pos 0 ≤ℤ y → pos 0 <ℤ z → x ≤ℤ pos 0 → ⊥
    sum x y z e k l m = omega (arith, ints)

left_down : (o d u v s t : ℤ) → pos 0 <ℤ d → d *ℤ o ≡ u *ℤ s +ℤ v *ℤ t → pos 0 <ℤ u → pos 0 <ℤ v → s <ℤ pos 0 → t ≤ℤ pos 0 → o <ℤ pos 0
left_down o d u v s t h e k l m n =
    by_lt_z o (pos 0) (λ q. q) (λ q. absurd (sum (d *ℤ o) (s *ℤ u) (u *ℤ s) (v *ℤ t) e (turned u s) (neg-mul-pos s u m k) (pos-mul-not_pos v t (weak l) n) (pos-mul-not_neg d o (weak h) q)))
  where
    turned : (u s : ℤ) → s *ℤ u ≡ u *ℤ s
    turned u s = omega (arith, ints)

    sum : (x w y z : ℤ) → x ≡ y +ℤ z → w ≡ y → w <ℤ pos 0 → z ≤ℤ pos 0 → pos 0 ≤ℤ x → ⊥
    sum x w y z e f k l m = omega (arith, ints)

less : (x y : ℤ) → x ≤ℤ y → (x -ℤ y) ≤ℤ pos 0
less x y h = omega (arith, ints)

more : (x y : ℤ) → y ≤ℤ x → pos 0 ≤ℤ (x -ℤ y)
more x y h = omega (arith, ints)

less_still : (x y : ℤ) → x <ℤ y → (x -ℤ y) <ℤ pos 0
less_still x y h = omega (arith, ints)

more_still : (x y : ℤ) → y <ℤ x → pos 0 <ℤ (x -ℤ y)
more_still x y h = omega (arith, ints)

-- ---- crossings
-- an edge with no end above the point is not crossed
pub crossed_below : (a b : Point) (p : RationalPoint) → (a.y *ℤ p.d) ≤ℤ p.y → (b.y *ℤ p.d) ≤ℤ p.y → crossing a b p ≡ pos 0
unfolding crossing
crossed_below a b p h k = both_below (a.y *ℤ p.d) (b.y *ℤ p.d) p.y (orient_at a b p) h k

-- an edge with both ends above the point is not crossed
pub crossed_above : (a b : Point) (p : RationalPoint) → p.y <ℤ (a.y *ℤ p.d) → p.y <ℤ (b.y *ℤ p.d) → crossing a b p ≡ pos 0
unfolding crossing
crossed_above a b p h k = both_above (a.y *ℤ p.d) (b.y *ℤ p.d) p.y (orient_at a b p) h k

-- an edge with no end right of the point is not crossed
pub crossed_left : (a b : Point) (p : RationalPoint) → pos 0 <ℤ p.d → (a.x *ℤ p.d) ≤ℤ p.x → (b.x *ℤ p.d) ≤ℤ p.x → crossing a b p ≡ pos 0
unfolding crossing
crossed_left a b p d h k = by_lt_z p.y (a.y *ℤ p.d)
    (λ s. by_lt_z p.y (b.y *ℤ p.d) (λ t. crossed_above a b p s t)
    (λ t. down_not_right (a.y *ℤ p.d) (b.y *ℤ p.d) p.y (orient_at a b p) s t (right_down (orient_at a b p) p.d _ _ _ _ d (side_sum a b p) (less _ _ k) (less _ _ h) (less _ _ (weak s)) (less _ _ t))))
    (λ s. by_lt_z p.y (b.y *ℤ p.d)
    (λ t. up_not_left (a.y *ℤ p.d) (b.y *ℤ p.d) p.y (orient_at a b p) s t (right_up (orient_at a b p) p.d _ _ _ _ d (side_sum a b p) (less _ _ k) (less _ _ h) (more _ _ s) (more _ _ (weak t))))
    (λ t. crossed_below a b p s t))

-- 1 where the point is at the height of the end or over it
pub passed_height : RationalPoint → Point → ℤ
passed_height p a = cond (int_lt p.y (a.y *ℤ p.d)) (pos 0) (pos 1)

passed_no : (x y : ℤ) → x <ℤ y → cond (int_lt x y) (pos 0) (pos 1) ≡ pos 0
passed_no x y h = grind (arith, ints)

passed_yes : (x y : ℤ) → y ≤ℤ x → cond (int_lt x y) (pos 0) (pos 1) ≡ pos 1
passed_yes x y h = grind (arith, ints)

differ : {x y c u v : ℤ} → x ≡ u → y ≡ v → c ≡ u -ℤ v → c ≡ x -ℤ y
differ e f g = omega (arith, ints)

-- one with both ends right of the point is crossed as it passes the point's height
pub crossed_right : (a b : Point) (p : RationalPoint) → pos 0 <ℤ p.d → p.x <ℤ (a.x *ℤ p.d) → p.x <ℤ (b.x *ℤ p.d) → crossing a b p ≡ passed_height p a -ℤ passed_height p b
unfolding passed_height crossing
crossed_right a b p d h k = by_lt_z p.y (a.y *ℤ p.d)
    (λ s. by_lt_z p.y (b.y *ℤ p.d)
    (λ t. differ (passed_no _ _ s) (passed_no _ _ t) (crossed_above a b p s t))
    (λ t. differ (passed_no _ _ s) (passed_yes _ _ t) (down_right (a.y *ℤ p.d) (b.y *ℤ p.d) p.y (orient_at a b p) s t
    (left_down (orient_at a b p) p.d _ _ _ _ d (side_sum a b p) (more_still _ _ k) (more_still _ _ h) (less_still _ _ s) (less _ _ t)))))
    (λ s. by_lt_z p.y (b.y *ℤ p.d)
    (λ t. differ (passed_yes _ _ s) (passed_no _ _ t) (up_left (a.y *ℤ p.d) (b.y *ℤ p.d) p.y (orient_at a b p) s t
    (left_up (orient_at a b p) p.d _ _ _ _ d (side_sum a b p) (more_still _ _ k) (more_still _ _ h) (more _ _ s) (more_still _ _ t))))
    (λ t. differ (passed_yes _ _ s) (passed_yes _ _ t) (crossed_below a b p s t)))
