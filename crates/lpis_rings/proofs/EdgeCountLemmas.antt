-- A polygon has no more edges than points.
use Rattle.std.proofs.Common.{◌≡◌, ◌≤◌, Bool, true, false, List, [], ◌∷◌, length, length-append, arith, flat_map}
use Rattle.lpis_rings.proofs.Common.{Point, Member, steps, shell_edges, hole_edges, edges_of, points_in, member_points, points_of}
use Rattle.std.proofs.lemmas.List.{length-reverse}
use Rattle.std.proofs.lemmas.List.Sums.{sum_by-cons}
use Rattle.lpis_rings.specs.Edges.{walk, member_edges}

length-steps : (ps : List Point) → length (steps ps) ≤ length ps
length-steps (p ∷ (q ∷ ps)) = omega (arith, length-steps (q ∷ ps))
length-steps _ = omega arith

length-walk : (b : Bool) (ps : List Point) → length (walk b ps) ≡ length ps
length-walk true ps = length-reverse ps
length-walk false ps = omega arith

walked-few : (b : Bool) (ps : List Point) → length (steps (walk b ps)) ≤ length ps
walked-few b ps = omega (arith, length-steps (walk b ps), length-walk b ps)

shell_edges-few : (ps : List Point) → length (shell_edges ps) ≤ length ps
unfolding shell_edges
shell_edges-few ps = walked-few _ ps

hole_edges-few : (ps : List Point) → length (hole_edges ps) ≤ length ps
unfolding hole_edges
hole_edges-few ps = walked-few _ ps

holes-few : (holes : List (List Point)) → length (flat_map hole_edges holes) ≤ points_in holes
holes-few [] = omega arith
holes-few (h ∷ hs) = omega (arith, length-append (hole_edges h) (flat_map hole_edges hs), hole_edges-few h, holes-few hs, sum_by-cons (λ (ps : List Point). length ps) h hs)

member-few : (m : Member) → length (member_edges m) ≤ member_points m
member-few m = omega (arith, length-append (shell_edges m.shell) (flat_map hole_edges m.holes), shell_edges-few m.shell, holes-few m.holes)

-- a polygon has no more edges than points
pub edges_few : (members : List Member) → length (edges_of members) ≤ points_of members
edges_few [] = omega arith
edges_few (m ∷ ms) = omega (arith, length-append (member_edges m) (edges_of ms), member-few m, edges_few ms, sum_by-cons member_points m ms)
