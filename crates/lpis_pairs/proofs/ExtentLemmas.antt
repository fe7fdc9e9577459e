-- Boxes measured from the corner of the range: what two of them say when their triangles are not apart.
use Rattle.std.proofs.Common.{◌≡◌, ℕ, ◌+◌, ◌/◌, ℤ, ◌<◌, ◌≤◌, ◌≤ℤ◌, ◌<ℤ◌, Bool, true, false, ◌||◌, ◌&&◌, int_le, nat_lt, refl, arith}
use Rattle.lpis_pairs.proofs.Common.{nat_tests, Triangle, extent_of}
use Rattle.std.proofs.lemmas.Int.{ints, clamps}
use Rattle.lpis_points.specs.Range.{IsInRange}
use Rattle.lpis_points.specs.Triangles.{are_apart, box_of, least, greatest}
use Rattle.lpis_pairs.specs.private.Strips.{offset, rounded_down, rounded_up}

-- the least and the greatest of three numbers
pub least_in_range : (a b c : ℤ) → IsInRange a → IsInRange b → IsInRange c → IsInRange (least a b c)
least_in_range a b c h k l = (omega (arith, ints, clamps, h.0, k.0, l.0), omega (arith, ints, clamps, h.1, k.1, l.1))

-- the greatest of three numbers in range is in range
pub greatest_in_range : (a b c : ℤ) → IsInRange a → IsInRange b → IsInRange c → IsInRange (greatest a b c)
greatest_in_range a b c h k l = (omega (arith, ints, clamps, h.0, k.0, l.0), omega (arith, ints, clamps, h.1, k.1, l.1))

least_upto_greatest : (a b c : ℤ) → least a b c ≤ℤ greatest a b c
least_upto_greatest a b c = omega (arith, ints, clamps)

-- what begins before another thing ends does so when the one is rounded down and the other up
rounded_below : (m n : ℕ) → m < n → m / 10 < (n + 9) / 10
rounded_below m n l = omega arith

rounded_upto : (m n : ℕ) → m ≤ n → m / 10 ≤ (n + 9) / 10
rounded_upto m n l = omega arith

begins_below : (y z : ℤ) → IsInRange y → y <ℤ z → rounded_down y < rounded_up z
begins_below y z h l = rounded_below (offset y) (offset z) (omega (arith, ints, h.0))

begins_upto : (y z : ℤ) → IsInRange y → y ≤ℤ z → rounded_down y ≤ rounded_up z
begins_upto y z h l = rounded_upto (offset y) (offset z) (omega (arith, ints, h.0))

-- in centimetres too, a box has its bottom no higher than its top
pub bottom_upto_top : (t : Triangle) → (extent_of t).bottom ≤ (extent_of t).top
bottom_upto_top t = begins_upto _ _ (least_in_range t.a.y t.b.y t.c.y t.a.y_in_range t.b.y_in_range t.c.y_in_range) (least_upto_greatest t.a.y t.b.y t.c.y)

-- the boxes meet inside in both directions
pub record Meet (t u : Triangle) : Type 0 where
  pub left : (extent_of t).left < (extent_of u).right
  pub right : (extent_of u).left < (extent_of t).right
  pub bottom : (extent_of t).bottom < (extent_of u).top
  pub top : (extent_of u).bottom < (extent_of t).top

four : (g h k l s t u v : ℤ) → ((int_le g h || int_le k l) || (int_le s t || int_le u v)) ≡ false → (h <ℤ g) × (l <ℤ k) × (t <ℤ s) × (v <ℤ u)
four g h k l s t u v e = (grind (arith, ints), grind (arith, ints), grind (arith, ints), grind (arith, ints))

-- triangles that are not apart have boxes that overlap in x and in y, in centimetres too
pub near_boxes_meet : (t u : Triangle) → are_apart t u ≡ false → Meet t u
unfolding are_apart
near_boxes_meet t u e =
    let f = four (box_of t).x1 (box_of u).x0 (box_of t).y1 (box_of u).y0 (box_of u).x1 (box_of t).x0 (box_of u).y1 (box_of t).y0 e in
    record {
      left = begins_below _ _ (least_in_range t.a.x t.b.x t.c.x t.a.x_in_range t.b.x_in_range t.c.x_in_range) f.2;
      right = begins_below _ _ (least_in_range u.a.x u.b.x u.c.x u.a.x_in_range u.b.x_in_range u.c.x_in_range) f.0;
      bottom = begins_below _ _ (least_in_range t.a.y t.b.y t.c.y t.a.y_in_range t.b.y_in_range t.c.y_in_range) f.3;
      top = begins_below _ _ (least_in_range u.a.y u.b.y u.c.y u.a.y_in_range u.b.y_in_range u.c.y_in_range) f.1;
    }

rounded_small : (z : ℤ) → IsInRange z → rounded_up z ≤ 4294967295
rounded_small z h = omega (arith, ints, h.0, h.1)

-- in centimetres, the top of a box has 32 bits
pub top_small : (t : Triangle) → (extent_of t).top ≤ 4294967295
top_small t = rounded_small _ (greatest_in_range t.a.y t.b.y t.c.y t.a.y_in_range t.b.y_in_range t.c.y_in_range)

-- ---- boxes that overlap by more than a centimetre
begins_before : (y z : ℤ) → IsInRange y → IsInRange z → rounded_down y + 1 < rounded_up z → y <ℤ z
begins_before y z h k l = omega (arith, ints, h.0, k.0)

apart_in_height : (t u : Triangle) → (nat_lt (extent_of t).bottom (extent_of u).top && nat_lt (extent_of u).bottom (extent_of t).top) ≡ false → are_apart t u ≡ false → ⊥
apart_in_height t u e n =
    let m = near_boxes_meet t u n in
    never (extent_of t).bottom (extent_of u).top (extent_of u).bottom (extent_of t).top m.bottom m.top e
  where
    never : (a b c d : ℕ) → a < b → c < d → (nat_lt a b && nat_lt c d) ≡ false → ⊥
    never a b c d l m e = grind (arith, nat_tests)

-- boxes that do not overlap in y, rounded, are apart
pub told_apart : (t u : Triangle) → (nat_lt (extent_of t).bottom (extent_of u).top && nat_lt (extent_of u).bottom (extent_of t).top) ≡ false → are_apart t u ≡ true
told_apart t u e = by (are_apart t u) refl
  where
    by : (b : Bool) → are_apart t u ≡ b → b ≡ true
    by true f = refl
    by false f = absurd (apart_in_height t u e f)

less : (a b c d a' b' c' d' : ℕ) → ((nat_lt a b && nat_lt c d) && (nat_lt a' b' && nat_lt c' d')) ≡ true → (a < b) × (c < d) × (a' < b') × (c' < d')
less a b c d a' b' c' d' e = (grind (arith, nat_tests), grind (arith, nat_tests), grind (arith, nat_tests), grind (arith, nat_tests))

none_ends : (g h k l s t u v : ℤ) → h <ℤ g → l <ℤ k → t <ℤ s → v <ℤ u → ((int_le g h || int_le k l) || (int_le s t || int_le u v)) ≡ false
none_ends g h k l s t u v p q r w = grind (arith, ints)

-- boxes that overlap by more than a centimetre, rounded, are not apart
pub told_near : (t u : Triangle)
    → ((nat_lt ((extent_of t).left + 1) (extent_of u).right && nat_lt ((extent_of t).bottom + 1) (extent_of u).top)
    && (nat_lt ((extent_of u).left + 1) (extent_of t).right && nat_lt ((extent_of u).bottom + 1) (extent_of t).top)) ≡ true
    → are_apart t u ≡ false
unfolding are_apart
told_near t u e =
    let l = less ((extent_of t).left + 1) (extent_of u).right ((extent_of t).bottom + 1) (extent_of u).top
    ((extent_of u).left + 1) (extent_of t).right ((extent_of u).bottom + 1) (extent_of t).top e in
    none_ends (box_of t).x1 (box_of u).x0 (box_of t).y1 (box_of u).y0 (box_of u).x1 (box_of t).x0 (box_of u).y1 (box_of t).y0
    (begins_before _ _ (least_in_range u.a.x u.b.x u.c.x u.a.x_in_range u.b.x_in_range u.c.x_in_range) (greatest_in_range t.a.x t.b.x t.c.x t.a.x_in_range t.b.x_in_range t.c.x_in_range) l.2)
    (begins_before _ _ (least_in_range u.a.y u.b.y u.c.y u.a.y_in_range u.b.y_in_range u.c.y_in_range) (greatest_in_range t.a.y t.b.y t.c.y t.a.y_in_range t.b.y_in_range t.c.y_in_range) l.3)
    (begins_before _ _ (least_in_range t.a.x t.b.x t.c.x t.a.x_in_range t.b.x_in_range t.c.x_in_range) (greatest_in_range u.a.x u.b.x u.c.x u.a.x_in_range u.b.x_in_range u.c.x_in_range) l.0)
    (begins_before _ _ (least_in_range t.a.y t.b.y t.c.y t.a.y_in_range t.b.y_in_range t.c.y_in_range) (greatest_in_range u.a.y u.b.y u.c.y u.a.y_in_range u.b.y_in_range u.c.y_in_range) l.1)
