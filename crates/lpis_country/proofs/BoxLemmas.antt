-- The box of a polygon has all its points, and is in the frame.
use Rattle.std.proofs.Common.{◌≡◌, ℕ, ◌+◌, ◌<◌, ◌≤◌, ℤ, pos, ◌+ℤ◌, ◌-ℤ◌, ◌*ℤ◌, neg_ℤ, ◌≤ℤ◌, ◌<ℤ◌, List, [], ◌∷◌, ◌++◌, length, drop, get_or, flat_map, All, ap, sym, refl, ◌∙◌, arith}
use Rattle.std.specs.Int.{int_max, int_min}
use Rattle.std.proofs.lemmas.Int.{ints, clamps}
use Rattle.std.proofs.lemmas.List.{drop_all, drop_more}
use Rattle.std.proofs.lemmas.List.Elements.{All-cons, All-nil}
use Rattle.lpis_points.specs.declared.point.Point.{Point}
use Rattle.lpis_points.specs.declared.boxes.Box4.{Box4}
use Rattle.lpis_points.specs.Plane.{RationalPoint}
use Rattle.lpis_points.specs.Range.{limit, IsInRange}
use Rattle.lpis_rings.specs.declared.polygon.Member.{Member}
use Rattle.lpis_edge_sums.specs.Making.{corners_of}
use Rattle.lpis_country.specs.Polygons.{box_of_members, box_with, box_with_all}
use Rattle.lpis_country.specs.Tiling.{frame}

-- the box has the point in it, its sides among it
pub record IsCovered (box : Box4) (c : Point) : Type 0 where
  pub left : box.x0 ≤ℤ c.x
  pub low : box.y0 ≤ℤ c.y
  pub right : c.x ≤ℤ box.x1
  pub high : c.y ≤ℤ box.y1

-- the box has the rational point in it; of the sides the left and the low one belong to it
pub record IsPointIn (box : Box4) (p : RationalPoint) : Type 0 where
  pub left : (box.x0 *ℤ p.d) ≤ℤ p.x
  pub low : (box.y0 *ℤ p.d) ≤ℤ p.y
  pub right : p.x <ℤ (box.x1 *ℤ p.d)
  pub high : p.y <ℤ (box.y1 *ℤ p.d)

-- the second box has the first in it
pub record IsWider (b c : Box4) : Type 0 where
  pub left : c.x0 ≤ℤ b.x0
  pub low : c.y0 ≤ℤ b.y0
  pub right : b.x1 ≤ℤ c.x1
  pub high : b.y1 ≤ℤ c.y1

le : {x y z : ℤ} → x ≤ℤ y → y ≤ℤ z → x ≤ℤ z
le h k = omega (arith, ints)

not_past_itself : (x : ℤ) → x ≤ℤ x
not_past_itself x = omega (arith, ints)

wider_still : (a b c : Box4) → IsWider a b → IsWider b c → IsWider a c
wider_still a b c h k = record { left = le k.left h.left; low = le k.low h.low; right = le h.right k.right; high = le h.high k.high }

covered_still : (b c : Box4) → IsWider b c → (p : Point) → IsCovered b p → IsCovered c p
covered_still b c w p h = record { left = le w.left h.left; low = le w.low h.low; right = le h.right w.right; high = le h.high w.high }

low : (x y : ℤ) → (int_min x y ≤ℤ x) × (int_min x y ≤ℤ y)
low x y = (omega (arith, ints, clamps), omega (arith, ints, clamps))

high : (x y : ℤ) → (x ≤ℤ int_max x y) × (y ≤ℤ int_max x y)
high x y = (omega (arith, ints, clamps), omega (arith, ints, clamps))

with_wider : (b : Box4) (p : Point) → IsWider b (box_with b p)
with_wider b p = record { left = (low b.x0 p.x).0; low = (low b.y0 p.y).0; right = (high b.x1 p.x).0; high = (high b.y1 p.y).0 }

with_covered : (b : Box4) (p : Point) → IsCovered (box_with b p) p
with_covered b p = record { left = (low b.x0 p.x).1; low = (low b.y0 p.y).1; right = (high b.x1 p.x).1; high = (high b.y1 p.y).1 }

all_wider : (b : Box4) (ps : List Point) → IsWider b (box_with_all b ps)
all_wider b [] = record { left = not_past_itself b.x0; low = not_past_itself b.y0; right = not_past_itself b.x1; high = not_past_itself b.y1 }
all_wider b (p ∷ ps) = wider_still b (box_with b p) (box_with_all (box_with b p) ps) (with_wider b p) (all_wider (box_with b p) ps)

all_covered : (b : Box4) (ps : List Point) → All (IsCovered (box_with_all b ps)) ps
all_covered b [] = All-nil (IsCovered b)
all_covered b (p ∷ ps) =
    let c = box_with b p in
    All-cons (IsCovered (box_with_all c ps)) p ps (covered_still c (box_with_all c ps) (all_wider c ps) p (with_covered b p)) (all_covered c ps)

-- the box of a polygon has each of its points in it, or on a side
pub box_covers : (ms : List Member) → All (IsCovered (box_of_members ms)) (corners_of ms)
box_covers ms = all_covered _ (corners_of ms)

-- ---- the frame
lesser : (l x y : ℤ) → l ≤ℤ x → l ≤ℤ y → l ≤ℤ int_min x y
lesser l x y h k = omega (arith, ints, clamps)

greater : (l x y : ℤ) → x ≤ℤ l → y ≤ℤ l → int_max x y ≤ℤ l
greater l x y h k = omega (arith, ints, clamps)

least : (z : ℤ) → IsInRange z → (neg_ℤ limit -ℤ pos 1) ≤ℤ z
least z h = omega (arith, ints, h.0)

most : (z : ℤ) → IsInRange z → z ≤ℤ (limit +ℤ pos 1)
most z h = omega (arith, ints, h.1)

with_framed : (b : Box4) (p : Point) → IsWider b frame → IsWider (box_with b p) frame
with_framed b p w = record {
  left = lesser frame.x0 b.x0 p.x w.left (least p.x p.x_in_range);
  low = lesser frame.y0 b.y0 p.y w.low (least p.y p.y_in_range);
  right = greater frame.x1 b.x1 p.x w.right (most p.x p.x_in_range);
  high = greater frame.y1 b.y1 p.y w.high (most p.y p.y_in_range);
}

all_framed : (b : Box4) (ps : List Point) → IsWider b frame → IsWider (box_with_all b ps) frame
all_framed b [] w = w
all_framed b (p ∷ ps) w = all_framed (box_with b p) ps (with_framed b p w)

-- the box of a polygon lies within the frame
pub box_framed : (ms : List Member) → IsWider (box_of_members ms) frame
box_framed ms = all_framed _ (corners_of ms) (record { left = omega (arith, ints); low = omega (arith, ints); right = omega (arith, ints); high = omega (arith, ints) })

-- ---- boxes of parts
-- the box with two lists of points in it is that with the first list, and then with the second
pub box_append : (b : Box4) (ps qs : List Point) → box_with_all b (ps ++ qs) ≡ box_with_all (box_with_all b ps) qs
box_append b [] qs = refl
box_append b (p ∷ ps) qs = box_append (box_with b p) ps qs

-- the box of a list of lists of points, one more taken in by a loop
pub more_taken : {A : Type 0} (f : A → List Point) (g n whole : Box4) (xs : List A) (i : ℕ) (x : A) → i < length xs → x ≡ get_or xs i x → n ≡ box_with_all g (f x)
    → box_with_all g (flat_map f (drop i xs)) ≡ whole → box_with_all n (flat_map f (drop (i + 1) xs)) ≡ whole
more_taken {A} f g n whole xs i x l e s w =
    ap (λ (b : Box4). box_with_all b (flat_map f (drop (i + 1) xs))) s ∙ sym (box_append g (f x) (flat_map f (drop (i + 1) xs)))
    ∙ ap (λ (y : A). box_with_all g (f y ++ flat_map f (drop (i + 1) xs))) e ∙ sym (ap (λ (ys : List A). box_with_all g (flat_map f ys)) (drop_more xs i x l)) ∙ w

-- past the last list of points nothing is left to take in, and the box is the whole one
pub all_taken : {A : Type 0} (f : A → List Point) (g whole : Box4) (xs : List A) (i : ℕ) → length xs ≤ i → box_with_all g (flat_map f (drop i xs)) ≡ whole → g ≡ whole
all_taken {A} f g whole xs i l w = sym (ap (λ (ys : List A). box_with_all g (flat_map f ys)) (drop_all i xs l)) ∙ w

-- with one point more taken in, the points that are left still make up the same whole box
pub point_taken : (g n whole : Box4) (ps : List Point) (i : ℕ) (p : Point) → i < length ps → p ≡ get_or ps i p → n ≡ box_with g p → box_with_all g (drop i ps) ≡ whole
    → box_with_all n (drop (i + 1) ps) ≡ whole
point_taken g n whole ps i p l e s w =
    ap (λ (b : Box4). box_with_all b (drop (i + 1) ps)) s ∙ ap (λ (q : Point). box_with_all g (q ∷ drop (i + 1) ps)) e ∙ sym (ap (box_with_all g) (drop_more ps i p l)) ∙ w

-- past the last point nothing is left to take in, and the box is the whole one
pub points_taken : (g whole : Box4) (ps : List Point) (i : ℕ) → length ps ≤ i → box_with_all g (drop i ps) ≡ whole → g ≡ whole
points_taken g whole ps i l w = sym (ap (box_with_all g) (drop_all i ps l)) ∙ w
