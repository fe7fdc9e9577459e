-- A point of the frame is in a tile, and a box with the point meets that tile.
use Rattle.std.proofs.Common.{◌≡◌, ℤ, pos, ◌*ℤ◌, ◌≤ℤ◌, ◌<ℤ◌, int_le, int_lt, Bool, true, false, not, cond, ◌||◌, List, ◌++◌, refl, arith}
use Rattle.std.specs.Int.{int_max, int_min}
use Rattle.std.proofs.lemmas.Int.{ints, by_lt_z}
use Rattle.lpis_points.specs.declared.boxes.Box4.{Box4}
use Rattle.lpis_points.specs.Plane.{RationalPoint}
use Rattle.lpis_edge_sums.proofs.Shared.{Found, any_found, found_any}
use Rattle.lpis_country.specs.Tiling.{rectangles, meets}
use Rattle.lpis_country.specs.Tree.{Tree, folder, by_x, by_y}
use Rattle.lpis_country.proofs.ListLemmas.{any_left, any_right}
use Rattle.lpis_country.proofs.BoxLemmas.{IsPointIn, IsWider}
use Rattle.lpis_country.proofs.SideLemmas.{times_up}

-- ---- the tile of a point
lesser : (x a b d : ℤ) → x <ℤ (a *ℤ d) → x <ℤ (b *ℤ d) → x <ℤ (int_min a b *ℤ d)
lesser x a b d h k = by (int_lt b a)
  where
    by : (t : Bool) → x <ℤ (cond t b a *ℤ d)
    by true = k
    by false = h

greater : (x a b d : ℤ) → (a *ℤ d) ≤ℤ x → (b *ℤ d) ≤ℤ x → (int_max a b *ℤ d) ≤ℤ x
greater x a b d h k = by (int_lt b a)
  where
    by : (t : Bool) → (cond t a b *ℤ d) ≤ℤ x
    by true = h
    by false = k

first : (P : Box4 → Type 0) (xs ys : List Box4) → Found P xs → Found P (xs ++ ys)
first P xs ys f = any_found P (xs ++ ys) (any_left P xs ys (found_any P xs f))

second : (P : Box4 → Type 0) (xs ys : List Box4) → Found P ys → Found P (xs ++ ys)
second P xs ys f = any_found P (xs ++ ys) (any_right P xs ys (found_any P ys f))

-- a point of a rectangle is in one of the tiles into which it is cut
pub tile_of : (t : Tree) (b : Box4) (p : RationalPoint) → IsPointIn b p → Found (λ (r : Box4). IsPointIn r p) (rectangles t b)
tile_of (folder name) b p h = record { index = 0; item = b; at = refl; has = h }
tile_of (by_x c s t) b p h =
    let one : Box4 = record { x0 = b.x0; y0 = b.y0; x1 = int_min b.x1 c; y1 = b.y1 } in
    let two : Box4 = record { x0 = int_max b.x0 c; y0 = b.y0; x1 = b.x1; y1 = b.y1 } in
    let P : Box4 → Type 0 = λ r. IsPointIn r p in
    by_lt_z p.x (c *ℤ p.d)
    (λ l. first P (rectangles s one) (rectangles t two) (tile_of s one p (record { left = h.left; low = h.low; right = lesser p.x b.x1 c p.d h.right l; high = h.high })))
    (λ l. second P (rectangles s one) (rectangles t two) (tile_of t two p (record { left = greater p.x b.x0 c p.d h.left l; low = h.low; right = h.right; high = h.high })))
tile_of (by_y c s t) b p h =
    let one : Box4 = record { x0 = b.x0; y0 = b.y0; x1 = b.x1; y1 = int_min b.y1 c } in
    let two : Box4 = record { x0 = b.x0; y0 = int_max b.y0 c; x1 = b.x1; y1 = b.y1 } in
    let P : Box4 → Type 0 = λ r. IsPointIn r p in
    by_lt_z p.y (c *ℤ p.d)
    (λ l. first P (rectangles s one) (rectangles t two) (tile_of s one p (record { left = h.left; low = h.low; right = h.right; high = lesser p.y b.y1 c p.d h.high l })))
    (λ l. second P (rectangles s one) (rectangles t two) (tile_of t two p (record { left = h.left; low = greater p.y b.y0 c p.d h.low l; right = h.right; high = h.high })))

-- ---- boxes with a common point
under : {x y z : ℤ} → x <ℤ y → y ≤ℤ z → x <ℤ z
under h k = omega (arith, ints)

over : {x y z : ℤ} → x ≤ℤ y → y ≤ℤ z → x ≤ℤ z
over h k = omega (arith, ints)

-- a point of a box is in each box that has this one in it
pub point_wider : (b c : Box4) (p : RationalPoint) → pos 0 <ℤ p.d → IsWider b c → IsPointIn b p → IsPointIn c p
point_wider b c p d w h = record {
  left = over (times_up c.x0 b.x0 p.d d w.left) h.left;
  low = over (times_up c.y0 b.y0 p.d d w.low) h.low;
  right = under h.right (times_up b.x1 c.x1 p.d d w.right);
  high = under h.high (times_up b.y1 c.y1 p.d d w.high);
}

-- where one begins at a point or before, another ends behind it
begins_before : (x y z d : ℤ) → pos 0 <ℤ d → (x *ℤ d) ≤ℤ y → y <ℤ (z *ℤ d) → x <ℤ z
begins_before x y z d h k l = by_lt_z x z (λ q. q) (λ q. absurd (by (times_up z x d h q) k l))
  where
    by : {v w : ℤ} → v ≤ℤ w → w ≤ℤ y → y <ℤ v → ⊥
    by k l m = omega (arith, ints)

not_apart : (a b c d e f g h : ℤ) → b <ℤ a → d <ℤ c → f <ℤ e → h <ℤ g → not ((int_le a b || int_le c d) || (int_le e f || int_le g h)) ≡ true
not_apart a b c d e f g h k l m n = grind (arith, ints)

-- two boxes with a common point meet
pub meet_at : (b c : Box4) (p : RationalPoint) → pos 0 <ℤ p.d → IsPointIn b p → IsPointIn c p → meets b c ≡ true
meet_at b c p d i j = not_apart b.x1 c.x0 b.y1 c.y0 c.x1 b.x0 c.y1 b.y0
    (begins_before c.x0 p.x b.x1 p.d d j.left i.right) (begins_before c.y0 p.y b.y1 p.d d j.low i.high)
    (begins_before b.x0 p.x c.x1 p.d d i.left j.right) (begins_before b.y0 p.y c.y1 p.d d i.low j.high)
