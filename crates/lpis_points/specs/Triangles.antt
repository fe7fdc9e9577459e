-- Triangles, their boxes, and lines between them.
use Rattle.std.specs.Prelude.{ℕ, ◌≡◌, ◌≢◌, ℤ, pos, ◌+ℤ◌, ◌≤ℤ◌, ◌<ℤ◌, int_le, int_lt, Bool, ◌&&◌}
use Rattle.std.specs.Prelude.{◌||◌}
use Rattle.std.specs.Prelude.{List, [], ◌∷◌}
use Rattle.std.specs.Int.{int_max, int_min}
use Rattle.lpis_points.specs.declared.point.Point.{Point}
use Rattle.lpis_points.specs.declared.triangle.Triangle.{Triangle}
use Rattle.lpis_points.specs.declared.boxes.Box4.{Box4}
use Rattle.lpis_points.specs.Plane.{RationalPoint, orient, orient_at, crossing}

-- the directed edges, from a to b, from b to c and from c to a
abbrev pub triangle_edges : Triangle → List (Point × Point)
triangle_edges t = (t.a, t.b) ∷ ((t.b, t.c) ∷ ((t.c, t.a) ∷ []))

abbrev pub IsCounterClockwise : Triangle → Type 0
IsCounterClockwise t = pos 0 <ℤ orient t.a t.b t.c

-- three different points of one line
pub record IsFlat (t : Triangle) : Type 0 where
  pub line : orient t.a t.b t.c ≡ pos 0
  pub ab : t.a ≢ t.b
  pub bc : t.b ≢ t.c
  pub ca : t.c ≢ t.a

-- p is strictly left of the three edges
abbrev pub is_inside : Triangle → RationalPoint → Bool
is_inside t p =
    int_lt (pos 0) (orient_at t.a t.b p) && int_lt (pos 0) (orient_at t.b t.c p)
    && int_lt (pos 0) (orient_at t.c t.a p)

-- p is off the lines of the three edges
pub record IsOffItsLines (t : Triangle) (p : RationalPoint) : Type 0 where
  pub ab : orient_at t.a t.b p ≢ pos 0
  pub bc : orient_at t.b t.c p ≢ pos 0
  pub ca : orient_at t.c t.a p ≢ pos 0

-- the sum of the crossings of the three edges by p
abbrev pub turns_round : Triangle → RationalPoint → ℤ
turns_round t p = crossing t.a t.b p +ℤ crossing t.b t.c p +ℤ crossing t.c t.a p

-- ---- lines between triangles
-- the corners lie left of the line from u to v, or on it
abbrev pub IsLeft : Point → Point → Triangle → Type 0
IsLeft u v t = (pos 0 ≤ℤ orient u v t.a) × (pos 0 ≤ℤ orient u v t.b) × (pos 0 ≤ℤ orient u v t.c)

-- the corners lie right of the line from u to v, or on it
abbrev pub IsRight : Point → Point → Triangle → Type 0
IsRight u v t = (orient u v t.a ≤ℤ pos 0) × (orient u v t.b ≤ℤ pos 0) × (orient u v t.c ≤ℤ pos 0)

-- the line through two different points has one triangle on its left and the other on its right
pub record Separates (line : Point × Point) (left right : Triangle) : Type 0 where
  pub differ : line.0 ≢ line.1
  pub left_of : IsLeft line.0 line.1 left
  pub right_of : IsRight line.0 line.1 right

-- ---- boxes
-- the greatest and the least of three numbers
abbrev pub greatest : ℤ → ℤ → ℤ → ℤ
greatest a b c = int_max (int_max a b) c

abbrev pub least : ℤ → ℤ → ℤ → ℤ
least a b c = int_min (int_min a b) c

-- the least and greatest x and y of the corners
abbrev pub box_of : Triangle → Box4
box_of t = record {
  x0 = least t.a.x t.b.x t.c.x;
  y0 = least t.a.y t.b.y t.c.y;
  x1 = greatest t.a.x t.b.x t.c.x;
  y1 = greatest t.a.y t.b.y t.c.y;
}

-- the greatest x of the first box is at most the least x of the second, or the same in y
abbrev pub ends_before : Box4 → Box4 → Bool
ends_before b c = int_le b.x1 c.x0 || int_le b.y1 c.y0

-- the boxes are apart. Boxes that only touch are
unfoldable pub are_apart : Triangle → Triangle → Bool
are_apart t u = ends_before (box_of t) (box_of u) || ends_before (box_of u) (box_of t)

-- the most triangles of a certificate, and of those that a source of pairs is asked about
abbrev pub most_triangles : ℕ
most_triangles = 2000000
