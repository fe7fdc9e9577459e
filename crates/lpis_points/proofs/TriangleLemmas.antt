-- Triangles and rational points, by their corners.
use Rattle.std.proofs.Common.{◌≡◌, ◌≢◌, ℤ, pos, ◌+ℤ◌, ◌-ℤ◌, ◌*ℤ◌, ◌≤ℤ◌, ◌<ℤ◌, int_lt, Bool, true, false, cond, refl, ◌&&◌, [], ◌∷◌, ap, subst, sym, ◌∙◌, arith}
use Rattle.lpis_points.proofs.Common.{ints, Point, Triangle, IsCounterClockwise, is_inside, RationalPoint, orient, orient_at, crossing}
use Rattle.lpis_points.specs.Triangles.{IsOffItsLines, turns_round}
use Rattle.lpis_points.specs.Plane.{shoelace_term}
use Rattle.lpis_points.proofs.SignLemmas.{not_neg, not_zero, pos-mul-not_neg, pos-mul-not_pos, zero_of_mul}
use Rattle.lpis_points.proofs.CrossingLemmas.{Around, around_total, inside_none}
use Rattle.lpis_points.proofs.IntRingLemmas.{var, con, ◌⊕◌, ◌⊖◌, ◌⊗◌, ring}
use Rattle.lpis_points.proofs.UnknownsLemmas.{ax, ay, bx, by_, cx, cy, ux, uy, vx, vy, px, py, d, n, unknowns_of, side, turn}

-- the height of a above p
abbrev pub over : Point → RationalPoint → ℤ
over a p = a.y *ℤ p.d -ℤ p.y

-- the three sides of p add up to d times the triangle
sides_sum : (a b c : Point) (p : RationalPoint) → orient_at a b p +ℤ orient_at b c p +ℤ orient_at c a p ≡ p.d *ℤ orient a b c
unfolding orient orient_at
sides_sum a b c p = ring (unknowns_of a b c p a a (pos 0))
    (side ax ay bx by_ ⊕ side bx by_ cx cy ⊕ side cx cy ax ay)
    (d ⊗ turn ax ay bx by_ cx cy) tt

-- the heights of the corners over p, each by the side of the edge across
heights_sum : (a b c : Point) (p : RationalPoint) → orient_at b c p *ℤ over a p +ℤ orient_at c a p *ℤ over b p +ℤ orient_at a b p *ℤ over c p ≡ pos 0
unfolding orient orient_at
heights_sum a b c p = ring (unknowns_of a b c p a a (pos 0))
    (side bx by_ cx cy ⊗ (ay ⊗ d ⊖ py) ⊕ side cx cy ax ay ⊗ (by_ ⊗ d ⊖ py) ⊕ side ax ay bx by_ ⊗ (cy ⊗ d ⊖ py))
    (con (pos 0)) tt

-- the side of p to a line, by the sides of the corners
pub line_sum : (a b c u v : Point) (p : RationalPoint) → orient_at b c p *ℤ orient u v a +ℤ orient_at c a p *ℤ orient u v b +ℤ orient_at a b p *ℤ orient u v c ≡ orient a b c *ℤ orient_at u v p
unfolding orient orient_at
line_sum a b c u v p = ring (unknowns_of a b c p u v (pos 0))
    (side bx by_ cx cy ⊗ turn ux uy vx vy ax ay ⊕ side cx cy ax ay ⊗ turn ux uy vx vy bx by_ ⊕ side ax ay bx by_ ⊗ turn ux uy vx vy cx cy)
    (turn ax ay bx by_ cx cy ⊗ side ux uy vx vy) tt

-- the corners' distances from an upright line at m
pub upright_sum : (a b c : Point) (p : RationalPoint) (m : ℤ) → orient_at b c p *ℤ (a.x -ℤ m) +ℤ orient_at c a p *ℤ (b.x -ℤ m) +ℤ orient_at a b p *ℤ (c.x -ℤ m) ≡ orient a b c *ℤ (p.x -ℤ m *ℤ p.d)
unfolding orient orient_at
upright_sum a b c p m = ring (unknowns_of a b c p a a m)
    (side bx by_ cx cy ⊗ (ax ⊖ n) ⊕ side cx cy ax ay ⊗ (bx ⊖ n) ⊕ side ax ay bx by_ ⊗ (cx ⊖ n))
    (turn ax ay bx by_ cx cy ⊗ (px ⊖ n ⊗ d)) tt

-- the corners' distances from a level line at m, weighted by the sides of p, add up to that of p times the area
pub level_sum : (a b c : Point) (p : RationalPoint) (m : ℤ) → orient_at b c p *ℤ (a.y -ℤ m) +ℤ orient_at c a p *ℤ (b.y -ℤ m) +ℤ orient_at a b p *ℤ (c.y -ℤ m) ≡ orient a b c *ℤ (p.y -ℤ m *ℤ p.d)
unfolding orient orient_at
level_sum a b c p m = ring (unknowns_of a b c p a a m)
    (side bx by_ cx cy ⊗ (ay ⊖ n) ⊕ side cx cy ax ay ⊗ (by_ ⊖ n) ⊕ side ax ay bx by_ ⊗ (cy ⊖ n))
    (turn ax ay bx by_ cx cy ⊗ (py ⊖ n ⊗ d)) tt

-- the step of a line, times a triangle's area, by the corners' sides to the line
pub x_by_sides : (a b c u v : Point) → (v.x -ℤ u.x) *ℤ orient a b c ≡ (b.x -ℤ a.x) *ℤ (orient u v c -ℤ orient u v a) -ℤ (orient u v b -ℤ orient u v a) *ℤ (c.x -ℤ a.x)
unfolding orient
x_by_sides a b c u v = ring (a.x ∷ a.y ∷ b.x ∷ b.y ∷ c.x ∷ c.y ∷ u.x ∷ u.y ∷ v.x ∷ v.y ∷ [])
    ((vx ⊖ ux) ⊗ turn ax ay bx by_ cx cy)
    ((bx ⊖ ax) ⊗ (turn ux uy vx vy cx cy ⊖ turn ux uy vx vy ax ay) ⊖ (turn ux uy vx vy bx by_ ⊖ turn ux uy vx vy ax ay) ⊗ (cx ⊖ ax)) tt

-- the step of a line in y, times a triangle's area, by the corners' sides to the line
pub y_by_sides : (a b c u v : Point) → (v.y -ℤ u.y) *ℤ orient a b c ≡ (b.y -ℤ a.y) *ℤ (orient u v c -ℤ orient u v a) -ℤ (orient u v b -ℤ orient u v a) *ℤ (c.y -ℤ a.y)
unfolding orient
y_by_sides a b c u v = ring (a.x ∷ a.y ∷ b.x ∷ b.y ∷ c.x ∷ c.y ∷ u.x ∷ u.y ∷ v.x ∷ v.y ∷ [])
    ((vy ⊖ uy) ⊗ turn ax ay bx by_ cx cy)
    ((by_ ⊖ ay) ⊗ (turn ux uy vx vy cx cy ⊖ turn ux uy vx vy ax ay) ⊖ (turn ux uy vx vy bx by_ ⊖ turn ux uy vx vy ax ay) ⊗ (cy ⊖ ay)) tt

-- the corners of a triangle with an area differ
orient_same₁ : (a b : Point) → orient a a b ≡ pos 0
unfolding orient
orient_same₁ a b = ring (a.x ∷ a.y ∷ b.x ∷ b.y ∷ []) (turn ax ay ax ay bx by_) (con (pos 0)) tt

orient_same₂ : (a b : Point) → orient a b b ≡ pos 0
unfolding orient
orient_same₂ a b = ring (a.x ∷ a.y ∷ b.x ∷ b.y ∷ []) (turn ax ay bx by_ bx by_) (con (pos 0)) tt

orient_same₃ : (a b : Point) → orient a b a ≡ pos 0
unfolding orient
orient_same₃ a b = ring (a.x ∷ a.y ∷ b.x ∷ b.y ∷ []) (turn ax ay bx by_ ax ay) (con (pos 0)) tt

-- no two of three corners are the same point
pub record CornersDiffer (a b c : Point) : Type 0 where
  pub ab : a ≢ b
  pub bc : b ≢ c
  pub ca : c ≢ a

-- the corners of a counter-clockwise triangle are three different points
pub corners_differ : (a b c : Point) → pos 0 <ℤ orient a b c → CornersDiffer a b c
corners_differ a b c h = record {
  ab = λ e. not_zero (orient a b c) h (subst (λ (x : Point). orient a x c ≡ pos 0) e (orient_same₁ a c));
  bc = λ e. not_zero (orient a b c) h (subst (λ (x : Point). orient a b x ≡ pos 0) e (orient_same₂ a b));
  ca = λ e. not_zero (orient a b c) h (subst (λ (x : Point). orient a b x ≡ pos 0) (sym e) (orient_same₃ a b));
}

-- the shoelace terms of a triangle
pub terms_sum : (a b c : Point) → shoelace_term a b +ℤ shoelace_term b c +ℤ shoelace_term c a ≡ orient a b c
unfolding orient
terms_sum a b c = ring (a.x ∷ a.y ∷ b.x ∷ b.y ∷ c.x ∷ c.y ∷ [])
    ((ax ⊗ by_ ⊖ bx ⊗ ay) ⊕ (bx ⊗ cy ⊖ cx ⊗ by_) ⊕ (cx ⊗ ay ⊖ ax ⊗ cy))
    (turn ax ay bx by_ cx cy) tt

-- ---- three corners and a point off their lines
-- where all three corners have the height of p, p lies on their line
level_side : (a b : Point) (p : RationalPoint) → orient_at a b p *ℤ p.d ≡ (b.x -ℤ a.x) *ℤ p.d *ℤ (p.y -ℤ a.y *ℤ p.d) -ℤ (b.y *ℤ p.d -ℤ a.y *ℤ p.d) *ℤ (p.x -ℤ a.x *ℤ p.d)
unfolding orient orient_at
level_side a b p = ring (unknowns_of a b a p a a (pos 0))
    (side ax ay bx by_ ⊗ d)
    ((bx ⊖ ax) ⊗ d ⊗ (py ⊖ ay ⊗ d) ⊖ (by_ ⊗ d ⊖ ay ⊗ d) ⊗ (px ⊖ ax ⊗ d)) tt

on_level : (m y s t z : ℤ) → s ≡ y → t ≡ y → m *ℤ (y -ℤ s) -ℤ (t -ℤ s) *ℤ z ≡ pos 0
on_level m y s t z e f =
    let step = var 0 in let level = var 1 in let way = var 2 in
    rw (e, f) (ring (m ∷ y ∷ z ∷ []) (step ⊗ (level ⊖ level) ⊖ (level ⊖ level) ⊗ way) (con (pos 0)) tt)

around : (t : Triangle) (p : RationalPoint) → pos 0 <ℤ p.d → pos 0 ≤ℤ orient t.a t.b t.c → IsOffItsLines t p
    → Around (t.a.y *ℤ p.d) (t.b.y *ℤ p.d) (t.c.y *ℤ p.d) p.y (orient_at t.a t.b p) (orient_at t.b t.c p) (orient_at t.c t.a p)
around t p h k o = record {
  off₁ = o.ab;
  off₂ = o.bc;
  off₃ = o.ca;
  heights = heights_sum t.a t.b t.c p;
  sum = subst (λ (z : ℤ). pos 0 ≤ℤ z) (sym (sides_sum t.a t.b t.c p)) (pos-mul-not_neg p.d (orient t.a t.b t.c) (not_neg p.d h) k);
  spread = λ e f g. o.ab (zero_of_mul (orient_at t.a t.b p) p.d h (level_side t.a t.b p ∙ on_level ((t.b.x -ℤ t.a.x) *ℤ p.d) p.y (t.a.y *ℤ p.d) (t.b.y *ℤ p.d) (p.x -ℤ t.a.x *ℤ p.d) e f));
}

-- the edges of a counter-clockwise triangle turn once round a point inside, and not at all round one outside
pub turns_round-is : (t : Triangle) (p : RationalPoint) → pos 0 <ℤ p.d → IsCounterClockwise t → IsOffItsLines t p → turns_round t p ≡ cond (is_inside t p) (pos 1) (pos 0)
unfolding crossing
turns_round-is t p h k o = around_total _ _ _ _ _ _ _ (around t p h (not_neg (orient t.a t.b t.c) k) o)

-- those of a flat do not turn round any point off its line
pub flats_never_turn : (t : Triangle) (p : RationalPoint) → pos 0 <ℤ p.d → orient t.a t.b t.c ≡ pos 0 → IsOffItsLines t p → turns_round t p ≡ pos 0
unfolding crossing
flats_never_turn t p h e o =
    around_total _ _ _ _ _ _ _ (around t p h (omega (arith, ints)) o)
    ∙ inside_none (orient_at t.a t.b p) (orient_at t.b t.c p) (orient_at t.c t.a p) (none _ _ _ p.d (sides_sum t.a t.b t.c p ∙ ap (λ (v : ℤ). p.d *ℤ v) e))
  where
    none : (x y z d : ℤ) → x +ℤ y +ℤ z ≡ d *ℤ pos 0 → pos 0 <ℤ x → pos 0 <ℤ y → pos 0 <ℤ z → ⊥
    none x y z d e p q r = omega (arith, ints)

-- ---- two triangles
-- what `is_inside` tells
pub record Inside (t : Triangle) (p : RationalPoint) : Type 0 where
  pub ab : pos 0 <ℤ orient_at t.a t.b p
  pub bc : pos 0 <ℤ orient_at t.b t.c p
  pub ca : pos 0 <ℤ orient_at t.c t.a p

-- a point inside a triangle is left of each of its three edges
pub inside_is : (t : Triangle) (p : RationalPoint) → is_inside t p ≡ true → Inside t p
inside_is t p e = let r = parts (orient_at t.a t.b p) (orient_at t.b t.c p) (orient_at t.c t.a p) e in record { ab = r.0; bc = r.1; ca = r.2 }
  where
    parts : (x y z : ℤ) → (int_lt (pos 0) x && int_lt (pos 0) y && int_lt (pos 0) z) ≡ true → (pos 0 <ℤ x) × (pos 0 <ℤ y) × (pos 0 <ℤ z)
    parts x y z e = grind (arith, ints)

-- a counter-clockwise triangle turns once round a point inside it
pub turns_once_inside : (t : Triangle) (p : RationalPoint) → pos 0 <ℤ p.d → IsCounterClockwise t → is_inside t p ≡ true → turns_round t p ≡ pos 1
turns_once_inside t p h c e =
    let i = inside_is t p e in
    turns_round-is t p h c (record { ab = above (orient_at t.a t.b p) i.ab; bc = above (orient_at t.b t.c p) i.bc; ca = above (orient_at t.c t.a p) i.ca })
    ∙ ap (λ (b : Bool). cond b (pos 1) (pos 0)) e
  where
    above : (x : ℤ) → pos 0 <ℤ x → x ≢ pos 0
    above x h e = omega (arith, ints)

-- a counter-clockwise triangle does not turn round a point off its lines that is not inside it
pub never_turns_outside : (t : Triangle) (p : RationalPoint) → pos 0 <ℤ p.d → IsCounterClockwise t → IsOffItsLines t p → (is_inside t p ≡ true → ⊥) → turns_round t p ≡ pos 0
never_turns_outside t p h c o n = turns_round-is t p h c o ∙ by (is_inside t p) n
  where
    by : (b : Bool) → (b ≡ true → ⊥) → cond b (pos 1) (pos 0) ≡ pos 0
    by true n = absurd (n refl)
    by false n = refl

-- three numbers not below 0, with weights above 0, have a sum not below 0
pub weighted_up : (o₁ o₂ o₃ x y z : ℤ) → pos 0 <ℤ o₁ → pos 0 <ℤ o₂ → pos 0 <ℤ o₃ → pos 0 ≤ℤ x → pos 0 ≤ℤ y → pos 0 ≤ℤ z → pos 0 ≤ℤ (o₁ *ℤ x +ℤ o₂ *ℤ y +ℤ o₃ *ℤ z)
weighted_up o₁ o₂ o₃ x y z p q r h k l =
    omega (arith, ints, pos-mul-not_neg o₁ x (not_neg o₁ p) h, pos-mul-not_neg o₂ y (not_neg o₂ q) k, pos-mul-not_neg o₃ z (not_neg o₃ r) l)

-- three numbers not above 0, with weights above 0, have a sum not above 0
pub weighted_down : (o₁ o₂ o₃ x y z : ℤ) → pos 0 <ℤ o₁ → pos 0 <ℤ o₂ → pos 0 <ℤ o₃ → x ≤ℤ pos 0 → y ≤ℤ pos 0 → z ≤ℤ pos 0 → (o₁ *ℤ x +ℤ o₂ *ℤ y +ℤ o₃ *ℤ z) ≤ℤ pos 0
weighted_down o₁ o₂ o₃ x y z p q r h k l =
    omega (arith, ints, pos-mul-not_pos o₁ x (not_neg o₁ p) h, pos-mul-not_pos o₂ y (not_neg o₂ q) k, pos-mul-not_pos o₃ z (not_neg o₃ r) l)
