-- Rings walked backwards, and areas by the edges in normal orientation.
use Rattle.std.proofs.Common.{◌≡◌, ℤ, pos, ◌+ℤ◌, neg_ℤ, int_lt, nat_abs, Bool, true, false, cond, List, [], ◌∷◌, ◌++◌, reverse, ap, sym, refl, ◌∙◌, arith, flat_map}
use Rattle.lpis_rings.proofs.Common.{ints, Point, shoelace_term, edge_sum, Member, steps, shoelace, absolute_sums, area2, shell_edges, hole_edges, edges_of}
use Rattle.std.proofs.lemmas.List.{reverse-append}
use Rattle.lpis_points.specs.Chain.{IsOdd}
use Rattle.lpis_points.proofs.Shared.{edge_sum-append, shoelace_term-odd}
use Rattle.lpis_rings.specs.Edges.{walk, member_edges}

steps-push : (f : Point → Point → ℤ) (xs : List Point) (y z : Point) → edge_sum f (steps ((xs ++ y ∷ []) ++ z ∷ [])) ≡ edge_sum f (steps (xs ++ y ∷ [])) +ℤ f y z
steps-push f (x ∷ (w ∷ xs)) y z = omega (arith, ints, steps-push f (w ∷ xs) y z)
steps-push f _ y z = omega (arith, ints)

reverse-cons : (a : Point) (xs : List Point) → reverse (a ∷ xs) ≡ reverse xs ++ a ∷ []
reverse-cons a xs = reverse-append (a ∷ []) xs

-- walked backwards, every odd function has the opposite sum
steps-reverse : (f : Point → Point → ℤ) → IsOdd f → (ps : List Point) → edge_sum f (steps (reverse ps)) ≡ neg_ℤ (edge_sum f (steps ps))
steps-reverse f o (a ∷ (b ∷ ps)) =
    ap (λ (xs : List Point). edge_sum f (steps xs)) (reverse-cons a (b ∷ ps) ∙ ap (λ (xs : List Point). xs ++ a ∷ []) (reverse-cons b ps))
    ∙ steps-push f (reverse ps) b a ∙ turned (edge_sum f (steps (reverse ps ++ b ∷ []))) (edge_sum f (steps (b ∷ ps)))
    (f a b) (f b a) (ap (λ (xs : List Point). edge_sum f (steps xs)) (sym (reverse-cons b ps))
    ∙ steps-reverse f o (b ∷ ps)) (o.reversed a b)
  where
    turned : (x y v w : ℤ) → x ≡ neg_ℤ y → w ≡ neg_ℤ v → x +ℤ w ≡ neg_ℤ (v +ℤ y)
    turned x y v w e g = omega (arith, ints)
steps-reverse _ _ _ = refl

abs_walk : (x y : ℤ) → y ≡ neg_ℤ x → cond (int_lt x (pos 0)) y x ≡ pos (nat_abs x)
abs_walk x y e = grind (arith, ints)

abs_hole : (x y : ℤ) → y ≡ neg_ℤ x → cond (int_lt (pos 0) x) y x ≡ neg_ℤ (pos (nat_abs x))
abs_hole x y e = grind (arith, ints)

walk_sum : (t : Bool) (ps : List Point) → edge_sum shoelace_term (steps (walk t ps)) ≡ cond t (edge_sum shoelace_term (steps (reverse ps))) (shoelace ps)
walk_sum true ps = refl
walk_sum false ps = refl

shell_sum : (ps : List Point) → edge_sum shoelace_term (shell_edges ps) ≡ pos (nat_abs (shoelace ps))
unfolding shell_edges
shell_sum ps = walk_sum (int_lt (shoelace ps) (pos 0)) ps ∙ abs_walk (shoelace ps) (edge_sum shoelace_term (steps (reverse ps))) (steps-reverse shoelace_term shoelace_term-odd ps)

hole_sum : (ps : List Point) → edge_sum shoelace_term (hole_edges ps) ≡ neg_ℤ (pos (nat_abs (shoelace ps)))
unfolding hole_edges
hole_sum ps = walk_sum (int_lt (pos 0) (shoelace ps)) ps ∙ abs_hole (shoelace ps) (edge_sum shoelace_term (steps (reverse ps))) (steps-reverse shoelace_term shoelace_term-odd ps)

holes_sum : (hs : List (List Point)) → edge_sum shoelace_term (flat_map hole_edges hs) ≡ neg_ℤ (absolute_sums hs)
holes_sum [] = refl
holes_sum (h ∷ hs) = omega (arith, ints, edge_sum-append shoelace_term (hole_edges h) (flat_map hole_edges hs), hole_sum h, holes_sum hs)

-- `area2` is the sum of the shoelace terms of the edges in normal orientation
pub area2_is : (ms : List Member) → edge_sum shoelace_term (edges_of ms) ≡ area2 ms
area2_is [] = refl
area2_is (m ∷ ms) =
    let one = edge_sum-append shoelace_term (member_edges m) (edges_of ms) in
    let two = edge_sum-append shoelace_term (shell_edges m.shell) (flat_map hole_edges m.holes) in
    omega (arith, ints, shell_sum m.shell, holes_sum m.holes, area2_is ms)
