-- Edges that all points of a box cross, or none.
use Rattle.std.proofs.Common.{◌≡◌, inl, inr, ℤ, pos, ◌+ℤ◌, ◌-ℤ◌, ◌*ℤ◌, ◌≤ℤ◌, ◌<ℤ◌, int_lt, int_le, int_eq, ◌&&◌, ◌||◌, Bool, true, false, not, [], ◌∷◌, sym, refl, ◌∙◌, arith}
use Rattle.std.proofs.lemmas.Int.{ints, by_lt_z}
use Rattle.lpis_points.specs.declared.point.Point.{Point}
use Rattle.lpis_points.specs.Plane.{crossing_of}
unfoldable use Rattle.lpis_points.specs.Plane.{crossing, orient_at}
use Rattle.lpis_points.proofs.Shared.{var, ◌⊕◌, ◌⊖◌, ◌⊗◌, ring}
use Rattle.lpis_points.proofs.Shared.{neg-mul-not_neg, neg-mul-not_pos, pos-mul-not_neg, pos-mul-not_pos}
use Rattle.lpis_places.specs.declared.edges.Edge.{Edge}
use Rattle.lpis_places.specs.declared.spans.Span.{Span}
use Rattle.lpis_places.specs.declared.spot.Spot.{Spot}
use Rattle.lpis_places.specs.Numbers.{parts}
use Rattle.lpis_places.specs.Points.{point_at, rational_at}
use Rattle.lpis_places.specs.private.Insides.{is_crossed}
use Rattle.lpis_places.specs.private.Reaches.{up}
use Rattle.lpis_places.specs.private.Spans.{CrossAlike, IsThrough}
use Rattle.lpis_places.proofs.InsideLemmas.{crossed_back, not_passed}

-- ---- the side of a line, by a step up and a step to the right
abbrev side : (dx dy u v x y : ℤ) → ℤ
side dx dy u v x y = dx *ℤ (y -ℤ v) -ℤ dy *ℤ (x -ℤ u)

moved : (dx dy u v x y z w : ℤ) → side dx dy u v x y -ℤ side dx dy u v z w ≡ dx *ℤ (y -ℤ w) +ℤ dy *ℤ (z -ℤ x)
moved dx dy u v x y z w =
    ring (dx ∷ (dy ∷ (u ∷ (v ∷ (x ∷ (y ∷ (z ∷ (w ∷ []))))))))
    ((var 0 ⊗ (var 5 ⊖ var 3) ⊖ var 1 ⊗ (var 4 ⊖ var 2)) ⊖ (var 0 ⊗ (var 7 ⊖ var 3) ⊖ var 1 ⊗ (var 6 ⊖ var 2)))
    (var 0 ⊗ (var 5 ⊖ var 7) ⊕ var 1 ⊗ (var 6 ⊖ var 4)) tt

less : (x y : ℤ) → x ≤ℤ y → (x -ℤ y) ≤ℤ pos 0
less x y h = omega (arith, ints)

more : (x y : ℤ) → y ≤ℤ x → pos 0 ≤ℤ (x -ℤ y)
more x y h = omega (arith, ints)

weak : (x y : ℤ) → x <ℤ y → x ≤ℤ y
weak x y h = omega (arith, ints)

above : (s t m n : ℤ) → s -ℤ t ≡ m +ℤ n → pos 0 ≤ℤ m → pos 0 ≤ℤ n → pos 0 <ℤ t → pos 0 <ℤ s
above s t m n e h k l = omega (arith, ints, e)

below : (s t m n : ℤ) → s -ℤ t ≡ m +ℤ n → m ≤ℤ pos 0 → n ≤ℤ pos 0 → t ≤ℤ pos 0 → s ≤ℤ pos 0
below s t m n e h k l = omega (arith, ints, e)

-- a point not right of two points that are left of the line, and between their heights, is left of it
left_still : (dx dy u v x l h z w : ℤ) → pos 0 <ℤ dy → z ≤ℤ x → l ≤ℤ w → w ≤ℤ h → pos 0 <ℤ side dx dy u v x l → pos 0 <ℤ side dx dy u v x h → pos 0 <ℤ side dx dy u v z w
left_still dx dy u v x l h z w d i j k s t =
    let right = pos-mul-not_neg dy (x -ℤ z) (weak (pos 0) dy d) (more x z i) in
    by_lt_z dx (pos 0)
    (λ n. above _ _ _ _ (moved dx dy u v z w x h) (neg-mul-not_pos dx (w -ℤ h) (weak dx (pos 0) n) (less w h k)) right t)
    (λ n. above _ _ _ _ (moved dx dy u v z w x l) (pos-mul-not_neg dx (w -ℤ l) n (more w l j)) right s)

-- one not left of two points that are not left of the line is not left of it
not_left_still : (dx dy u v x l h z w : ℤ) → pos 0 <ℤ dy → x ≤ℤ z → l ≤ℤ w → w ≤ℤ h → side dx dy u v x l ≤ℤ pos 0 → side dx dy u v x h ≤ℤ pos 0 → side dx dy u v z w ≤ℤ pos 0
not_left_still dx dy u v x l h z w d i j k s t =
    let left = pos-mul-not_pos dy (x -ℤ z) (weak (pos 0) dy d) (less x z i) in
    by_lt_z dx (pos 0)
    (λ n. below _ _ _ _ (moved dx dy u v z w x l) (neg-mul-not_neg dx (w -ℤ l) (weak dx (pos 0) n) (more w l j)) left s)
    (λ n. below _ _ _ _ (moved dx dy u v z w x h) (pos-mul-not_pos dx (w -ℤ h) n (less w h k)) left t)

-- ---- an edge that goes up past a height
passed_up : (s t y o : ℤ) → s ≤ℤ y → y <ℤ t → not (int_eq (crossing_of s t y o) (pos 0)) ≡ int_lt (pos 0) o
passed_up s t y o h k = grind (arith, ints)

abbrev side_at : Point → Point → ℤ → ℤ → ℤ
side_at a b x y = side (b.x -ℤ a.x) (b.y -ℤ a.y) (up a.x) (up a.y) x y

-- it is crossed by the points left of it
crossed_up : (a b : Point) (x y : ℤ) → up a.y ≤ℤ y → y <ℤ up b.y → is_crossed (point_at x y) a b ≡ int_lt (pos 0) (side_at a b x y)
unfolding crossing orient_at
crossed_up a b x y h k = passed_up (up a.y) (up b.y) y (side_at a b x y) h k

yes : (o : ℤ) → int_lt (pos 0) o ≡ true → pos 0 <ℤ o
yes o e = grind (arith, ints)

no : (o : ℤ) → int_lt (pos 0) o ≡ false → o ≤ℤ pos 0
no o e = grind (arith, ints)

says_yes : (o : ℤ) → pos 0 <ℤ o → int_lt (pos 0) o ≡ true
says_yes o e = grind (arith, ints)

says_no : (o : ℤ) → o ≤ℤ pos 0 → int_lt (pos 0) o ≡ false
says_no o e = grind (arith, ints)

rises : (s t l h : ℤ) → up s ≤ℤ l → l ≤ℤ h → h <ℤ up t → pos 0 <ℤ (t -ℤ s)
rises s t l h i j k = omega (arith, ints)

over : (x y z : ℤ) → x ≤ℤ y → y ≤ℤ z → x ≤ℤ z
over x y z h k = omega (arith, ints)

under : (x y z : ℤ) → x ≤ℤ y → y <ℤ z → x <ℤ z
under x y z h k = omega (arith, ints)

up_crossed : (a b : Point) (l h x : ℤ) (s : Spot) → up a.y ≤ℤ l → h <ℤ up b.y → l ≤ℤ s.y → s.y ≤ℤ h → s.x ≤ℤ x
    → is_crossed (point_at x l) a b ≡ true → is_crossed (point_at x h) a b ≡ true → is_crossed (rational_at s) a b ≡ true
up_crossed a b l h x s i j k m n p q =
    let lh = over l s.y h k m in
    crossed_up a b s.x s.y (over (up a.y) l s.y i k) (under s.y h (up b.y) m j)
    ∙ says_yes _ (left_still (b.x -ℤ a.x) (b.y -ℤ a.y) (up a.x) (up a.y) x l h s.x s.y (rises a.y b.y l h i lh j) n k m
    (yes _ (sym (crossed_up a b x l i (under l h (up b.y) lh j)) ∙ p))
    (yes _ (sym (crossed_up a b x h (over (up a.y) l h i lh) j) ∙ q)))

up_uncrossed : (a b : Point) (l h x : ℤ) (s : Spot) → up a.y ≤ℤ l → h <ℤ up b.y → l ≤ℤ s.y → s.y ≤ℤ h → x ≤ℤ s.x
    → is_crossed (point_at x l) a b ≡ false → is_crossed (point_at x h) a b ≡ false → is_crossed (rational_at s) a b ≡ false
up_uncrossed a b l h x s i j k m n p q =
    let lh = over l s.y h k m in
    crossed_up a b s.x s.y (over (up a.y) l s.y i k) (under s.y h (up b.y) m j)
    ∙ says_no _ (not_left_still (b.x -ℤ a.x) (b.y -ℤ a.y) (up a.x) (up a.y) x l h s.x s.y (rises a.y b.y l h i lh j) n k m
    (no _ (sym (crossed_up a b x l i (under l h (up b.y) lh j)) ∙ p))
    (no _ (sym (crossed_up a b x h (over (up a.y) l h i lh) j) ∙ q)))

-- ---- an edge past all heights of a box
-- where the two points at its right side cross it, all do
all_cross : (b : Span) (e : Edge) → IsThrough b e → is_crossed (point_at b.high.x b.low.y) e.from e.to ≡ true → is_crossed (point_at b.high.x b.high.y) e.from e.to ≡ true → CrossAlike b e true
all_cross b e (inr t) p q s h = up_crossed e.from e.to b.low.y b.high.y b.high.x s t.0 t.1 h.low h.high h.right p q
all_cross b e (inl t) p q s h =
    sym (crossed_back (rational_at s) e.from e.to)
    ∙ up_crossed e.to e.from b.low.y b.high.y b.high.x s t.1 t.0 h.low h.high h.right (crossed_back (point_at b.high.x b.low.y) e.from e.to ∙ p)
    (crossed_back (point_at b.high.x b.high.y) e.from e.to ∙ q)

-- where the two points at its left side do not, none does
none_crosses : (b : Span) (e : Edge) → IsThrough b e → is_crossed (point_at b.low.x b.low.y) e.from e.to ≡ false → is_crossed (point_at b.low.x b.high.y) e.from e.to ≡ false → CrossAlike b e false
none_crosses b e (inr t) p q s h = up_uncrossed e.from e.to b.low.y b.high.y b.low.x s t.0 t.1 h.low h.high h.left p q
none_crosses b e (inl t) p q s h =
    sym (crossed_back (rational_at s) e.from e.to)
    ∙ up_uncrossed e.to e.from b.low.y b.high.y b.low.x s t.1 t.0 h.low h.high h.left (crossed_back (point_at b.low.x b.low.y) e.from e.to ∙ p)
    (crossed_back (point_at b.low.x b.high.y) e.from e.to ∙ q)

both_are : (b c : Bool) → b && c ≡ true → (b ≡ true) × (c ≡ true)
both_are true true e = (refl, refl)
both_are true false e = absurd (none e)
  where
    none : false ≡ true → ⊥
    none e = cc
both_are false c e = absurd (none e)
  where
    none : false ≡ true → ⊥
    none e = cc

neither_is : (b c : Bool) → b || c ≡ false → (b ≡ false) × (c ≡ false)
neither_is false false e = (refl, refl)
neither_is false true e = absurd (none e)
  where
    none : true ≡ false → ⊥
    none e = cc
neither_is true c e = absurd (none e)
  where
    none : true ≡ false → ⊥
    none e = cc

-- the same of both points at a side at once
pub all_right_cross : (b : Span) (e : Edge) → IsThrough b e → is_crossed (point_at b.high.x b.low.y) e.from e.to && is_crossed (point_at b.high.x b.high.y) e.from e.to ≡ true → CrossAlike b e true
all_right_cross b e t h = let w = both_are _ _ h in all_cross b e t w.0 w.1

-- the same at the left side
pub no_left_crosses : (b : Span) (e : Edge) → IsThrough b e → is_crossed (point_at b.low.x b.low.y) e.from e.to || is_crossed (point_at b.low.x b.high.y) e.from e.to ≡ false → CrossAlike b e false
no_left_crosses b e t h = let w = neither_is _ _ h in none_crosses b e t w.0 w.1

-- ---- an edge beyond a side of a box
both_over : (y h s t : ℤ) → y ≤ℤ h → int_lt h s ≡ true → int_lt h t ≡ true → int_lt y s ≡ int_lt y t
both_over y h s t k i j = grind (arith, ints)

both_under : (y l s t : ℤ) → l ≤ℤ y → int_le s l ≡ true → int_le t l ≡ true → int_lt y s ≡ int_lt y t
both_under y l s t k i j = grind (arith, ints)

-- both ends are above the box
pub above_all : (b : Span) (e : Edge) → int_lt b.high.y (up e.from.y) ≡ true → int_lt b.high.y (up e.to.y) ≡ true → CrossAlike b e false
above_all b e h k s w = not_passed e.from e.to (rational_at s) (both_over s.y b.high.y (up e.from.y) (up e.to.y) w.high h k)

-- both ends are below it, or at its low side
pub above_none : (b : Span) (e : Edge) → int_le (up e.from.y) b.low.y ≡ true → int_le (up e.to.y) b.low.y ≡ true → CrossAlike b e false
above_none b e h k s w = not_passed e.from e.to (rational_at s) (both_under s.y b.low.y (up e.from.y) (up e.to.y) w.low h k)

left_too : (x l u : ℤ) → l ≤ℤ x → int_le u l ≡ true → u ≤ℤ x
left_too x l u h k = grind (arith, ints)

-- the side, times the parts of a millimetre, by the heights of the ends over the point and their ways to its right
side_sum : (ax ay bx bh d x y : ℤ) → d *ℤ side (bx -ℤ ax) (bh -ℤ ay) (ax *ℤ d) (ay *ℤ d) x y ≡ (bx *ℤ d -ℤ x) *ℤ (y -ℤ ay *ℤ d) +ℤ (ax *ℤ d -ℤ x) *ℤ (bh *ℤ d -ℤ y)
side_sum ax ay bx bh d x y =
    ring (ax ∷ (ay ∷ (bx ∷ (bh ∷ (d ∷ (x ∷ (y ∷ [])))))))
    (var 4 ⊗ ((var 2 ⊖ var 0) ⊗ (var 6 ⊖ var 1 ⊗ var 4) ⊖ (var 3 ⊖ var 1) ⊗ (var 5 ⊖ var 0 ⊗ var 4)))
    ((var 2 ⊗ var 4 ⊖ var 5) ⊗ (var 6 ⊖ var 1 ⊗ var 4) ⊕ (var 0 ⊗ var 4 ⊖ var 5) ⊗ (var 3 ⊗ var 4 ⊖ var 6)) tt

not_above : (o m n : ℤ) → parts *ℤ o ≡ m +ℤ n → m ≤ℤ pos 0 → n ≤ℤ pos 0 → o ≤ℤ pos 0
not_above o m n e h k = omega (arith, ints, e)

-- an edge that goes up past a point, with no end right of it, is not crossed
up_left : (a b : Point) (s : Spot) → up a.y ≤ℤ s.y → s.y <ℤ up b.y → up a.x ≤ℤ s.x → up b.x ≤ℤ s.x → is_crossed (rational_at s) a b ≡ false
up_left a b s h k i j =
    crossed_up a b s.x s.y h k
    ∙ says_no (side_at a b s.x s.y) (not_above (side_at a b s.x s.y) _ _ (side_sum a.x a.y b.x b.y parts s.x s.y)
    (neg-mul-not_neg (up b.x -ℤ s.x) (s.y -ℤ up a.y) (less (up b.x) s.x j) (more s.y (up a.y) h))
    (neg-mul-not_neg (up a.x -ℤ s.x) (up b.y -ℤ s.y) (less (up a.x) s.x i) (more (up b.y) s.y (weak s.y (up b.y) k))))

both_lower : (y s t : ℤ) → s ≤ℤ y → t ≤ℤ y → int_lt y s ≡ int_lt y t
both_lower y s t h k = grind (arith, ints)

both_higher : (y s t : ℤ) → y <ℤ s → y <ℤ t → int_lt y s ≡ int_lt y t
both_higher y s t h k = grind (arith, ints)

left_of : (a b : Point) (s : Spot) → up a.x ≤ℤ s.x → up b.x ≤ℤ s.x → is_crossed (rational_at s) a b ≡ false
left_of a b s i j = by_lt_z s.y (up a.y)
    (λ h. by_lt_z s.y (up b.y)
    (λ k. not_passed a b (rational_at s) (both_higher s.y (up a.y) (up b.y) h k))
    (λ k. sym (crossed_back (rational_at s) a b) ∙ up_left b a s k h j i))
    (λ h. by_lt_z s.y (up b.y)
    (λ k. up_left a b s h k i j)
    (λ k. not_passed a b (rational_at s) (both_lower s.y (up a.y) (up b.y) h k)))

-- both ends are left of it, or at its left side
pub right_of_none : (b : Span) (e : Edge) → int_le (up e.from.x) b.low.x ≡ true → int_le (up e.to.x) b.low.x ≡ true → CrossAlike b e false
right_of_none b e h k s w = left_of e.from e.to s (left_too s.x b.low.x (up e.from.x) w.left h) (left_too s.x b.low.x (up e.to.x) w.left k)

-- ---- boxes of points
pub le_then : (x y z : ℤ) → x ≤ℤ y → y ≤ℤ z → x ≤ℤ z
le_then x y z h k = omega (arith, ints)

-- what is equal to a number that is not greater
pub from_left : (x y z : ℤ) → x ≡ y → y ≤ℤ z → x ≤ℤ z
from_left x y z e h = omega (arith, ints, e)

-- what is equal to a number that is not less
pub to_right : (x y z : ℤ) → x ≡ y → z ≤ℤ y → z ≤ℤ x
to_right x y z e h = omega (arith, ints, e)
