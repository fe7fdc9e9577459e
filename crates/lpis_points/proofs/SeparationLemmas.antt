-- Two counter-clockwise triangles on two sides of a line have no inner point in common.
use Rattle.std.proofs.Common.{◌≡◌, ◌≢◌, true, ℤ, pos, ◌+ℤ◌, ◌-ℤ◌, ◌*ℤ◌, ◌≤ℤ◌, ◌<ℤ◌, subst, ◌∙◌, arith}
use Rattle.lpis_points.proofs.Common.{*ℤ_comm, ints, Point, Triangle, RationalPoint, orient, orient_at, IsCounterClockwise, is_inside}
use Rattle.lpis_points.specs.Triangles.{Separates}
use Rattle.lpis_points.proofs.PointLemmas.{point_eq}
use Rattle.lpis_points.proofs.SignLemmas.{not_neg, pos-mul-not_neg, zero_of_mul, not_neg_of_mul, not_pos_of_mul}
use Rattle.lpis_points.proofs.TriangleLemmas.{x_by_sides, y_by_sides, inside_is, line_sum, weighted_up, weighted_down}

-- ---- corners on one line make no area
nothing : (m n o p q : ℤ) → o ≡ pos 0 → p ≡ pos 0 → q ≡ pos 0 → m *ℤ (q -ℤ o) -ℤ (p -ℤ o) *ℤ n ≡ pos 0
nothing m n o p q e f g = rw (e, f, g) (omega (arith, ints))

no_step-same : (x y : ℤ) → y -ℤ x ≡ pos 0 → x ≡ y
no_step-same x y e = omega (arith, ints)

-- a triangle with an area has a corner off each line through two different points
on_line : (a b c u v : Point) → u ≢ v → pos 0 <ℤ orient a b c → orient u v a ≡ pos 0 → orient u v b ≡ pos 0 → orient u v c ≡ pos 0 → ⊥
on_line a b c u v n t e f g = n (point_eq u v (no_step-same u.x v.x x) (no_step-same u.y v.y y))
  where
    x : v.x -ℤ u.x ≡ pos 0
    x = zero_of_mul (v.x -ℤ u.x) (orient a b c) t (x_by_sides a b c u v ∙ nothing (b.x -ℤ a.x) (c.x -ℤ a.x) (orient u v a) (orient u v b) (orient u v c) e f g)

    y : v.y -ℤ u.y ≡ pos 0
    y = zero_of_mul (v.y -ℤ u.y) (orient a b c) t (y_by_sides a b c u v ∙ nothing (b.y -ℤ a.y) (c.y -ℤ a.y) (orient u v a) (orient u v b) (orient u v c) e f g)

-- ---- a point inside a triangle that is on one side of a line
-- weights above 0 on numbers of one sign, with the sum 0
zeros_up : (o₁ o₂ o₃ x y z s : ℤ) → pos 0 <ℤ o₁ → pos 0 <ℤ o₂ → pos 0 <ℤ o₃ → pos 0 ≤ℤ x → pos 0 ≤ℤ y → pos 0 ≤ℤ z
    → o₁ *ℤ x +ℤ o₂ *ℤ y +ℤ o₃ *ℤ z ≡ s → s ≡ pos 0 → (x ≡ pos 0) × (y ≡ pos 0) × (z ≡ pos 0)
zeros_up o₁ o₂ o₃ x y z s p q r h k l e f =
    let a = pos-mul-not_neg o₁ x (not_neg o₁ p) h in
    let b = pos-mul-not_neg o₂ y (not_neg o₂ q) k in
    let c = pos-mul-not_neg o₃ z (not_neg o₃ r) l in
    (zero_of_mul x o₁ p (*ℤ_comm x o₁ ∙ omega (arith, ints)), zero_of_mul y o₂ q (*ℤ_comm y o₂ ∙ omega (arith, ints)), zero_of_mul z o₃ r (*ℤ_comm z o₃ ∙ omega (arith, ints)))

by_nought : (o z : ℤ) → z ≡ pos 0 → o *ℤ z ≡ pos 0
by_nought o z e = rw e (omega (arith, ints))

-- counter-clockwise triangles on two sides of a line have no point inside both
pub separated_share_nothing : (line : Point × Point) (t u : Triangle) (p : RationalPoint) → IsCounterClockwise t
    → IsCounterClockwise u → Separates line t u → is_inside t p ≡ true → is_inside u p ≡ true → ⊥
separated_share_nothing line t u p h k s e f =
    let i = inside_is t p e in
    let j = inside_is u p f in
    let l = s.left_of in
    let r = s.right_of in
    let side = orient_at line.0 line.1 p in
    let sum = line_sum t.a t.b t.c line.0 line.1 p in
    let above = not_neg_of_mul (orient t.a t.b t.c) side h (subst (λ (z : ℤ). pos 0 ≤ℤ z) sum (weighted_up _ _ _ _ _ _ i.bc i.ca i.ab l.0 l.1 l.2)) in
    let below = not_pos_of_mul (orient u.a u.b u.c) side k (subst (λ (z : ℤ). z ≤ℤ pos 0) (line_sum u.a u.b u.c line.0 line.1 p) (weighted_down _ _ _ _ _ _ j.bc j.ca j.ab r.0 r.1 r.2)) in
    let z = zeros_up _ _ _ _ _ _ (orient t.a t.b t.c *ℤ side) i.bc i.ca i.ab l.0 l.1 l.2 sum (by_nought (orient t.a t.b t.c) side (omega (arith, ints))) in
    on_line t.a t.b t.c line.0 line.1 s.differ h z.0 z.1 z.2
