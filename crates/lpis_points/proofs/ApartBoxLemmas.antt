-- Two triangles whose boxes are apart have no inner point in common.
use Rattle.std.proofs.Common.{◌≡◌, ℤ, pos, ◌+ℤ◌, ◌-ℤ◌, ◌*ℤ◌, ◌≤ℤ◌, ◌<ℤ◌, int_le, true, ◌||◌, ◌⊎◌, inl, inr, subst, arith}
use Rattle.lpis_points.proofs.Common.{ints, by_lt_z, RationalPoint, orient, orient_at, Triangle, IsCounterClockwise, is_inside}
use Rattle.std.proofs.lemmas.Int.{clamps}
use Rattle.lpis_points.specs.Triangles.{greatest, least, box_of, are_apart}
use Rattle.lpis_points.proofs.SignLemmas.{not_neg, not_zero, pos-mul-not_neg, not_neg_of_mul}
use Rattle.lpis_points.proofs.CrossingLemmas.{all_level}
use Rattle.lpis_points.proofs.IntRingLemmas.{con, ring}
use Rattle.lpis_points.proofs.UnknownsLemmas.{ax, ay, bx, by_, cx, cy, n, unknowns_of, turn}
use Rattle.lpis_points.specs.declared.point.Point.{Point}
use Rattle.lpis_points.proofs.TriangleLemmas.{Inside, inside_is, upright_sum, level_sum, weighted_up}

-- the point at `z` from a border: a positive sum of the corners' distances
record Weighted (o₁ o₂ o₃ x y z m t e : ℤ) : Type 0 where
  p₁ : pos 0 <ℤ o₁
  p₂ : pos 0 <ℤ o₂
  p₃ : pos 0 <ℤ o₃
  sum : o₁ *ℤ (x -ℤ m) +ℤ o₂ *ℤ (y -ℤ m) +ℤ o₃ *ℤ (z -ℤ m) ≡ t *ℤ e
  area : pos 0 <ℤ t
  spread : x ≡ m → y ≡ m → z ≡ m → ⊥

above_least : (o₁ o₂ o₃ x y z m t e : ℤ) → Weighted o₁ o₂ o₃ x y z m t e → m ≤ℤ x → m ≤ℤ y → m ≤ℤ z → pos 0 ≤ℤ e
above_least o₁ o₂ o₃ x y z m t e w h k l = not_neg_of_mul t e w.area (subst (λ (v : ℤ). pos 0 ≤ℤ v) w.sum
    (weighted_up o₁ o₂ o₃ (x -ℤ m) (y -ℤ m) (z -ℤ m) w.p₁ w.p₂ w.p₃ (omega (arith, ints)) (omega (arith, ints)) (omega (arith, ints))))

below_greatest : (o₁ o₂ o₃ x y z m t e : ℤ) → Weighted o₁ o₂ o₃ x y z m t e → x ≤ℤ m → y ≤ℤ m → z ≤ℤ m → e <ℤ pos 0
below_greatest o₁ o₂ o₃ x y z m t e w h k l = by_lt_z e (pos 0) (λ n. n)
    (λ n. let r = all_level o₁ o₂ o₃ x y z m (t *ℤ e) w.p₁ w.p₂ w.p₃ h k l w.sum (pos-mul-not_neg t e (not_neg t w.area) n) in absurd (w.spread r.0 r.1 r.2))

-- a triangle whose corners have one x, or one y, is flat
no_width : (a b c : Point) (p : RationalPoint) (m : ℤ) → a.x ≡ m → b.x ≡ m → c.x ≡ m → orient a b c ≡ pos 0
unfolding orient
no_width a b c p m e f g = rw (e, f, g) (ring (unknowns_of a b c p a a m) (turn n ay n by_ n cy) (con (pos 0)) tt)

no_height : (a b c : Point) (p : RationalPoint) (m : ℤ) → a.y ≡ m → b.y ≡ m → c.y ≡ m → orient a b c ≡ pos 0
unfolding orient
no_height a b c p m e f g = rw (e, f, g) (ring (unknowns_of a b c p a a m) (turn ax n bx n cx n) (con (pos 0)) tt)

upright : (t : Triangle) (p : RationalPoint) (m : ℤ) → IsCounterClockwise t → Inside t p
    → Weighted (orient_at t.b t.c p) (orient_at t.c t.a p) (orient_at t.a t.b p) t.a.x t.b.x t.c.x m (orient t.a t.b t.c) (p.x -ℤ m *ℤ p.d)
unfolding orient
upright t p m h i = record {
  p₁ = i.bc;
  p₂ = i.ca;
  p₃ = i.ab;
  sum = upright_sum t.a t.b t.c p m;
  area = h;
  spread = λ e f g. not_zero (orient t.a t.b t.c) h (no_width t.a t.b t.c p m e f g);
}

level : (t : Triangle) (p : RationalPoint) (m : ℤ) → IsCounterClockwise t → Inside t p
    → Weighted (orient_at t.b t.c p) (orient_at t.c t.a p) (orient_at t.a t.b p) t.a.y t.b.y t.c.y m (orient t.a t.b t.c) (p.y -ℤ m *ℤ p.d)
unfolding orient
level t p m h i = record {
  p₁ = i.bc;
  p₂ = i.ca;
  p₃ = i.ab;
  sum = level_sum t.a t.b t.c p m;
  area = h;
  spread = λ e f g. not_zero (orient t.a t.b t.c) h (no_height t.a t.b t.c p m e f g);
}

-- three numbers that end where three others begin
ends : (a b c m : ℤ) → greatest a b c ≤ℤ m → (a ≤ℤ m) × (b ≤ℤ m) × (c ≤ℤ m)
ends a b c m h = omega (arith, ints, clamps)

begins : (a b c m : ℤ) → m ≤ℤ least a b c → (m ≤ℤ a) × (m ≤ℤ b) × (m ≤ℤ c)
begins a b c m h = omega (arith, ints, clamps)

clash : (o₁ o₂ o₃ x y z t u₁ u₂ u₃ x' y' z' t' : ℤ) → (e : ℤ → ℤ) → ((m : ℤ) → Weighted o₁ o₂ o₃ x y z m t (e m)) → ((m : ℤ) → Weighted u₁ u₂ u₃ x' y' z' m t' (e m))
    → greatest x y z ≤ℤ least x' y' z' → ⊥
clash o₁ o₂ o₃ x y z t u₁ u₂ u₃ x' y' z' t' e v w h =
    let m = greatest x y z in
    let r = ends x y z m (omega (arith, ints)) in
    let s = begins x' y' z' m h in
    omega (arith, ints, below_greatest _ _ _ _ _ _ _ _ (e m) (v m) r.0 r.1 r.2, above_least _ _ _ _ _ _ _ _ (e m) (w m) s.0 s.1 s.2)

left_of : (t u : Triangle) (p : RationalPoint) → IsCounterClockwise t → IsCounterClockwise u → (box_of t).x1 ≤ℤ (box_of u).x0 → Inside t p → Inside u p → ⊥
left_of t u p h k l i j = clash _ _ _ _ _ _ _ _ _ _ _ _ _ _ (λ m. p.x -ℤ m *ℤ p.d) (λ m. upright t p m h i) (λ m. upright u p m k j) l

under : (t u : Triangle) (p : RationalPoint) → IsCounterClockwise t → IsCounterClockwise u → (box_of t).y1 ≤ℤ (box_of u).y0 → Inside t p → Inside u p → ⊥
under t u p h k l i j = clash _ _ _ _ _ _ _ _ _ _ _ _ _ _ (λ m. p.y -ℤ m *ℤ p.d) (λ m. level t p m h i) (λ m. level u p m k j) l

four : (g h k l s t u v : ℤ) → ((int_le g h || int_le k l) || (int_le s t || int_le u v)) ≡ true → (g ≤ℤ h) ⊎ ((k ≤ℤ l) ⊎ ((s ≤ℤ t) ⊎ (u ≤ℤ v)))
four g h k l s t u v e = grind (arith, ints)

-- counter-clockwise triangles whose boxes are apart have no point inside both
pub apart_share_nothing : (t u : Triangle) (p : RationalPoint) → IsCounterClockwise t → IsCounterClockwise u → are_apart t u ≡ true → is_inside t p ≡ true → is_inside u p ≡ true → ⊥
unfolding are_apart
apart_share_nothing t u p h k s e f =
    let i = inside_is t p e in
    let j = inside_is u p f in
    elim (four _ _ _ _ _ _ _ _ s) [
      | inl l ↦ left_of t u p h k l i j
      | inr q ↦ elim q [
        | inl l ↦ under t u p h k l i j
        | inr r ↦ elim r [
          | inl l ↦ left_of u t p k h l j i
          | inr l ↦ under u t p k h l j i
        ]
      ]
    ]
