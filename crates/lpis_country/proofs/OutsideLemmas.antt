-- A polygon contains points of its box alone.
use Rattle.std.proofs.Common.{◌≡◌, ℕ, suc, ◌≤◌, ◌-◌, ℤ, pos, ◌+ℤ◌, ◌-ℤ◌, ◌*ℤ◌, ◌≤ℤ◌, ◌<ℤ◌, int_lt, Bool, true, false, List, [], ◌∷◌, ◌++◌}
use Rattle.std.proofs.Common.{length, reverse, flat_map, Some, All, ap, sym, refl, ◌∙◌, subst, arith}
use Rattle.std.specs.List.{slice_get}
use Rattle.std.proofs.lemmas.Int.{ints, by_lt_z}
use Rattle.std.proofs.lemmas.List.{reverse-append}
use Rattle.std.proofs.lemmas.List.Elements.{All-head, All-tail}
use Rattle.std.proofs.lemmas.Option.{same_Some}
use Rattle.lpis_points.specs.declared.point.Point.{Point}
use Rattle.lpis_points.specs.declared.boxes.Box4.{Box4}
use Rattle.lpis_points.specs.Plane.{RationalPoint, crossing}
use Rattle.lpis_points.specs.Chain.{edge_sum}
use Rattle.lpis_points.proofs.Shared.{edge_sum-append}
use Rattle.lpis_rings.specs.declared.polygon.Member.{Member}
use Rattle.lpis_rings.specs.Area.{steps, shoelace}
use Rattle.lpis_rings.specs.Edges.{walk, shell_edges, hole_edges, member_edges, edges_of, edge_turns, turns}
use Rattle.lpis_rings.specs.Ring.{IsRing}
use Rattle.lpis_edge_sums.specs.Making.{corners_of, points_of_rings}
use Rattle.lpis_edge_sums.proofs.Shared.{all_left, all_right}
use Rattle.lpis_country.specs.Polygons.{HasClosedRings}
use Rattle.lpis_country.proofs.ListLemmas.{all_snoc}
use Rattle.lpis_country.proofs.BoxLemmas.{IsCovered, IsPointIn}
use Rattle.lpis_country.proofs.SideLemmas.{crossed_above, crossed_below, crossed_left, crossed_right, passed_height, times_up}

-- the crossing of each edge with both ends in the box is a difference of a function of points
abbrev IsPotential : (Point → ℤ) → Box4 → RationalPoint → Type 0
IsPotential g box p = (a b : Point) → IsCovered box a → IsCovered box b → crossing a b p ≡ g a -ℤ g b

-- ---- a ring begins with the point with which it ends
record Closed (ps : List Point) : Type 0 where
  point : Point
  between : List Point
  is : ps ≡ point ∷ between ++ point ∷ []

last_is : (x : Point) (xs : List Point) (y : Point) → slice_get (x ∷ xs) (length xs) ≡ Some y → (ys : List Point) × (x ∷ xs ≡ ys ++ y ∷ [])
last_is x [] y e = ([], ap (λ (z : Point). z ∷ []) (same_Some x y e))
last_is x (z ∷ xs) y e = let r = last_is z xs y e in (x ∷ r.0, ap (λ (ys : List Point). x ∷ ys) r.1)

closed : (ps : List Point) → IsRing ps → Closed ps
closed [] r = absurd (none r.four)
  where
    none : 4 ≤ 0 → ⊥
    none h = omega arith
closed (x ∷ []) r = absurd (one r.four)
  where
    one : 4 ≤ 1 → ⊥
    one h = omega arith
closed (x ∷ y ∷ xs) r = let l = last_is y xs x (ap (slice_get (x ∷ y ∷ xs)) (before (length xs)) ∙ r.closed) in record { point = x; between = l.0; is = ap (λ (ys : List Point). x ∷ ys) l.1 }
  where
    before : (n : ℕ) → suc n ≡ suc (suc n) - 1
    before n = omega arith

-- ---- rings round which a point does not go
between_sum : (g : Point → ℤ) (box : Box4) (p : RationalPoint) → IsPotential g box p → (x : Point) (xs : List Point) (y : Point) → All (IsCovered box) (x ∷ xs ++ y ∷ [])
    → edge_sum (λ a b. crossing a b p) (steps (x ∷ xs ++ y ∷ [])) ≡ g x -ℤ g y
between_sum g box p h x [] y w = one (crossing x y p) (g x -ℤ g y) (h x y (All-head (IsCovered box) x (y ∷ []) w) (All-head (IsCovered box) y [] (All-tail (IsCovered box) x (y ∷ []) w)))
  where
    one : (c z : ℤ) → c ≡ z → c +ℤ pos 0 ≡ z
    one c z e = omega (arith, ints)
between_sum g box p h x (z ∷ xs) y w =
    let t = All-tail (IsCovered box) x (z ∷ xs ++ y ∷ []) w in
    added _ _ (g x) (g z) (g y) (h x z (All-head (IsCovered box) x (z ∷ xs ++ y ∷ []) w) (All-head (IsCovered box) z (xs ++ y ∷ []) t)) (between_sum g box p h z xs y t)
  where
    added : (c s u v w : ℤ) → c ≡ u -ℤ v → s ≡ v -ℤ w → c +ℤ s ≡ u -ℤ w
    added c s u v w e f = omega (arith, ints)

nothing : (z : ℤ) → z -ℤ z ≡ pos 0
nothing z = omega (arith, ints)

all_reversed : (P : Point → Type 0) (xs : List Point) → All P xs → All P (reverse xs)
all_reversed P [] h = h
all_reversed P (x ∷ xs) h = subst (All P) (sym (reverse-append (x ∷ []) xs)) (all_snoc P (reverse xs) x (all_reversed P xs (All-tail P x xs h)) (All-head P x xs h))

turned : (x : Point) (xs : List Point) → reverse (x ∷ xs ++ x ∷ []) ≡ x ∷ reverse xs ++ x ∷ []
turned x xs = reverse-append (x ∷ xs) (x ∷ []) ∙ ap (λ (ys : List Point). x ∷ ys) (reverse-append (x ∷ []) xs)

walk_sum : (g : Point → ℤ) (box : Box4) (p : RationalPoint) → IsPotential g box p → (t : Bool) (ps : List Point) → IsRing ps → All (IsCovered box) ps
    → edge_sum (λ a b. crossing a b p) (steps (walk t ps)) ≡ pos 0
walk_sum g box p h t ps r w =
    let c = closed ps r in
    by t c.point c.between (subst (All (IsCovered box)) c.is w) (ap (λ (qs : List Point). edge_sum (λ a b. crossing a b p) (steps (walk t qs))) c.is)
  where
    by : (t : Bool) (x : Point) (xs : List Point) → All (IsCovered box) (x ∷ xs ++ x ∷ [])
        → edge_sum (λ a b. crossing a b p) (steps (walk t ps)) ≡ edge_sum (λ a b. crossing a b p) (steps (walk t (x ∷ xs ++ x ∷ [])))
        → edge_sum (λ a b. crossing a b p) (steps (walk t ps)) ≡ pos 0
    by false x xs k e = e ∙ between_sum g box p h x xs x k ∙ nothing (g x)
    by true x xs k e =
        let back = subst (All (IsCovered box)) (turned x xs) (all_reversed (IsCovered box) (x ∷ xs ++ x ∷ []) k) in
        e ∙ ap (λ (qs : List Point). edge_sum (λ a b. crossing a b p) (steps qs)) (turned x xs) ∙ between_sum g box p h x (reverse xs) x back ∙ nothing (g x)

nought : {x y : ℤ} → x ≡ pos 0 → y ≡ pos 0 → x +ℤ y ≡ pos 0
nought e f = omega (arith, ints)

holes_sum : (g : Point → ℤ) (box : Box4) (p : RationalPoint) → IsPotential g box p → (hs : List (List Point)) → All IsRing hs → All (IsCovered box) (points_of_rings hs)
    → edge_turns (flat_map hole_edges hs) p ≡ pos 0
unfolding hole_edges
holes_sum g box p h [] r w = refl
holes_sum g box p h (x ∷ xs) r w =
    edge_sum-append (λ a b. crossing a b p) (hole_edges x) (flat_map hole_edges xs)
    ∙ nought (walk_sum g box p h (int_lt (pos 0) (shoelace x)) x (All-head IsRing x xs r) (all_left (IsCovered box) x (points_of_rings xs) w))
    (holes_sum g box p h xs (All-tail IsRing x xs r) (all_right (IsCovered box) x (points_of_rings xs) w))

member_sum : (g : Point → ℤ) (box : Box4) (p : RationalPoint) → IsPotential g box p → (m : Member) → All IsRing (m.shell ∷ m.holes) → All (IsCovered box) (m.shell ++ points_of_rings m.holes)
    → edge_turns (member_edges m) p ≡ pos 0
unfolding shell_edges
member_sum g box p h m r w =
    edge_sum-append (λ a b. crossing a b p) (shell_edges m.shell) (flat_map hole_edges m.holes)
    ∙ nought (walk_sum g box p h (int_lt (shoelace m.shell) (pos 0)) m.shell (All-head IsRing m.shell m.holes r) (all_left (IsCovered box) m.shell (points_of_rings m.holes) w))
    (holes_sum g box p h m.holes (All-tail IsRing m.shell m.holes r) (all_right (IsCovered box) m.shell (points_of_rings m.holes) w))

polygon_sum : (g : Point → ℤ) (box : Box4) (p : RationalPoint) → IsPotential g box p → (ms : List Member) → HasClosedRings ms → All (IsCovered box) (corners_of ms) → turns ms p ≡ pos 0
polygon_sum g box p h [] r w = refl
polygon_sum g box p h (m ∷ ms) r w =
    let P : Member → Type 0 = λ n. All IsRing (n.shell ∷ n.holes) in
    edge_sum-append (λ a b. crossing a b p) (member_edges m) (edges_of ms)
    ∙ nought (member_sum g box p h m (All-head P m ms r) (all_left (IsCovered box) (m.shell ++ points_of_rings m.holes) (corners_of ms) w))
    (polygon_sum g box p h ms (All-tail P m ms r) (all_right (IsCovered box) (m.shell ++ points_of_rings m.holes) (corners_of ms) w))

-- ---- points beyond a side of the box
none : Point → ℤ
none a = pos 0

under : {x y z : ℤ} → x <ℤ y → y ≤ℤ z → x <ℤ z
under h k = omega (arith, ints)

over : {x y z : ℤ} → x ≤ℤ y → y ≤ℤ z → x ≤ℤ z
over h k = omega (arith, ints)

below : (box : Box4) (p : RationalPoint) → pos 0 <ℤ p.d → p.y <ℤ (box.y0 *ℤ p.d) → IsPotential none box p
unfolding none
below box p d h a b v w = crossed_above a b p (under h (times_up box.y0 a.y p.d d v.low)) (under h (times_up box.y0 b.y p.d d w.low)) ∙ sym (nothing (pos 0))

above : (box : Box4) (p : RationalPoint) → pos 0 <ℤ p.d → (box.y1 *ℤ p.d) ≤ℤ p.y → IsPotential none box p
unfolding none
above box p d h a b v w = crossed_below a b p (over (times_up a.y box.y1 p.d d v.high) h) (over (times_up b.y box.y1 p.d d w.high) h) ∙ sym (nothing (pos 0))

right_of : (box : Box4) (p : RationalPoint) → pos 0 <ℤ p.d → (box.x1 *ℤ p.d) ≤ℤ p.x → IsPotential none box p
unfolding none
right_of box p d h a b v w = crossed_left a b p d (over (times_up a.x box.x1 p.d d v.right) h) (over (times_up b.x box.x1 p.d d w.right) h) ∙ sym (nothing (pos 0))

left_of : (box : Box4) (p : RationalPoint) → pos 0 <ℤ p.d → p.x <ℤ (box.x0 *ℤ p.d) → IsPotential (passed_height p) box p
left_of box p d h a b v w = crossed_right a b p d (under h (times_up box.x0 a.x p.d d v.left)) (under h (times_up box.x0 b.x p.d d w.left))

-- a point round which a polygon turns is in a box of all its points
pub in_its_box : (box : Box4) (p : RationalPoint) → pos 0 <ℤ p.d → (ms : List Member) → HasClosedRings ms → All (IsCovered box) (corners_of ms) → turns ms p ≡ pos 1 → IsPointIn box p
in_its_box box p d ms r w t = record {
  left = by_lt_z p.x (box.x0 *ℤ p.d) (λ l. absurd (outside (passed_height p) (left_of box p d l))) (λ k. k);
  low = by_lt_z p.y (box.y0 *ℤ p.d) (λ l. absurd (outside none (below box p d l))) (λ k. k);
  right = by_lt_z p.x (box.x1 *ℤ p.d) (λ k. k) (λ l. absurd (outside none (right_of box p d l)));
  high = by_lt_z p.y (box.y1 *ℤ p.d) (λ k. k) (λ l. absurd (outside none (above box p d l)));
}
  where
    outside : (g : Point → ℤ) → IsPotential g box p → ⊥
    outside g h = two (turns ms p) (polygon_sum g box p h ms r w) t
      where
        two : (z : ℤ) → z ≡ pos 0 → z ≡ pos 1 → ⊥
        two z e f = omega (arith, ints)
