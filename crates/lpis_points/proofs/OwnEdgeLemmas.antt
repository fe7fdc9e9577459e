-- The edges of a counter-clockwise triangle, which has itself on their left.
use Rattle.std.proofs.Common.{◌≡◌, ℕ, zero, suc, ℤ, pos, ◌≤ℤ◌, ◌<ℤ◌, [], ◌∷◌, Some, sym, subst, arith, slice_get}
use Rattle.lpis_points.proofs.Common.{ints, Point, Triangle, IsCounterClockwise, orient}
use Rattle.std.proofs.lemmas.Option.{none-some, same_Some}
use Rattle.lpis_points.specs.Triangles.{IsRight, Separates, triangle_edges}
use Rattle.lpis_points.proofs.IntRingLemmas.{con, ring}
use Rattle.lpis_points.proofs.SignLemmas.{not_neg}
use Rattle.lpis_points.proofs.TriangleLemmas.{corners_differ}
use Rattle.lpis_points.proofs.UnknownsLemmas.{ax, ay, bx, by_, cx, cy, turn}

-- the corners' sides to their own edge
at_start : (a b : Point) → orient a b a ≡ pos 0
unfolding orient
at_start a b = ring (a.x ∷ a.y ∷ b.x ∷ b.y ∷ []) (turn ax ay bx by_ ax ay) (con (pos 0)) tt

at_end : (a b : Point) → orient a b b ≡ pos 0
unfolding orient
at_end a b = ring (a.x ∷ a.y ∷ b.x ∷ b.y ∷ []) (turn ax ay bx by_ bx by_) (con (pos 0)) tt

turned : (a b c : Point) → orient b c a ≡ orient a b c
unfolding orient
turned a b c = ring (a.x ∷ a.y ∷ b.x ∷ b.y ∷ c.x ∷ c.y ∷ []) (turn bx by_ cx cy ax ay) (turn ax ay bx by_ cx cy) tt

on_it : (z : ℤ) → z ≡ pos 0 → pos 0 ≤ℤ z
on_it z e = omega (arith, ints, e)

left_of_it : (y z : ℤ) → y ≡ z → pos 0 <ℤ z → pos 0 ≤ℤ y
left_of_it y z e h = omega (arith, ints, e, h)

-- where another triangle lies right of an edge of a counter-clockwise one, the edge separates them
pub own_edge_separates : (k : ℕ) (t u : Triangle) (edge : Point × Point) → IsCounterClockwise t
    → slice_get (triangle_edges t) k ≡ Some edge → IsRight edge.0 edge.1 u → Separates edge t u
own_edge_separates zero t u edge h e r =
    let same = sym (same_Some (t.a, t.b) edge e) in
    subst (λ (x : Point × Point). Separates x t u) (sym same) (record {
      differ = (corners_differ t.a t.b t.c h).ab;
      left_of = (on_it _ (at_start t.a t.b), on_it _ (at_end t.a t.b), not_neg _ h);
      right_of = subst (λ (x : Point × Point). IsRight x.0 x.1 u) same r;
    })
own_edge_separates (suc zero) t u edge h e r =
    let same = sym (same_Some (t.b, t.c) edge e) in
    subst (λ (x : Point × Point). Separates x t u) (sym same) (record {
      differ = (corners_differ t.a t.b t.c h).bc;
      left_of = (left_of_it _ _ (turned t.a t.b t.c) h, on_it _ (at_start t.b t.c), on_it _ (at_end t.b t.c));
      right_of = subst (λ (x : Point × Point). IsRight x.0 x.1 u) same r;
    })
own_edge_separates (suc (suc zero)) t u edge h e r =
    let same = sym (same_Some (t.c, t.a) edge e) in
    subst (λ (x : Point × Point). Separates x t u) (sym same) (record {
      differ = (corners_differ t.a t.b t.c h).ca;
      left_of = (on_it _ (at_end t.c t.a), left_of_it _ _ (sym (turned t.c t.a t.b)) h, on_it _ (at_start t.c t.a));
      right_of = subst (λ (x : Point × Point). IsRight x.0 x.1 u) same r;
    })
own_edge_separates (suc (suc (suc k))) t u edge h e r = absurd (none-some edge e)
