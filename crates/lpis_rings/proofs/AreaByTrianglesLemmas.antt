-- The area of edges that triangles and flats make up.
use Rattle.std.proofs.Common.{◌≡◌, ◌<◌, ℤ, pos, ◌+ℤ◌, ◌<ℤ◌, ◌≤ℤ◌, length, List, [], ◌∷◌, ◌++◌, All, get_or, refl, ◌∙◌, arith}
use Rattle.lpis_rings.proofs.Common.{ints, Point, shoelace_term, edge_sum}
use Rattle.std.proofs.lemmas.List.Elements.{All-head, All-tail}
use Rattle.lpis_points.specs.declared.triangle.Triangle.{Triangle}
use Rattle.lpis_points.specs.Plane.{orient, same_point}
use Rattle.lpis_points.specs.Triangles.{IsCounterClockwise, IsFlat}
use Rattle.lpis_points.specs.Chain.{SameNet, IsOdd}
use Rattle.lpis_points.specs.Sums.{int_sum_by}
use Rattle.lpis_points.proofs.Shared.{chain_lemma, edge_sum-append, int_sum_by-flat_map, int_sum_by-not_neg, same_point-equality, shoelace_term-odd, terms_sum}
use Rattle.lpis_rings.specs.Map.{edges_of_triangles, IsCut, triangle_areas, CutPiece, all_edges, all_areas}

-- a sum over the edges of triangles, by the sum round each
pub triangles_sum : (f : Point → Point → ℤ) (g : Triangle → ℤ) (ts : List Triangle) → All (λ t. f t.a t.b +ℤ f t.b t.c +ℤ f t.c t.a ≡ g t) ts → edge_sum f (edges_of_triangles ts) ≡ int_sum_by g ts
triangles_sum f g [] h = refl
triangles_sum f g (t ∷ ts) h = omega (arith, ints, All-head IsSum t ts h, triangles_sum f g ts (All-tail IsSum t ts h))
  where
    IsSum : Triangle → Type 0
    IsSum u = f u.a u.b +ℤ f u.b u.c +ℤ f u.c u.a ≡ g u

-- the sum is 0 where it is 0 round each
pub no_sum : (f : Point → Point → ℤ) (ts : List Triangle) → All (λ t. f t.a t.b +ℤ f t.b t.c +ℤ f t.c t.a ≡ pos 0) ts → edge_sum f (edges_of_triangles ts) ≡ pos 0
no_sum f ts h = triangles_sum f (λ t. pos 0) ts h ∙ noughts ts
  where
    noughts : (us : List Triangle) → int_sum_by (λ (t : Triangle). pos 0) us ≡ pos 0
    noughts [] = refl
    noughts (u ∷ us) = omega (arith, ints, noughts us)

-- edges with the net counts of others, and of flats round which the sum is 0, have the sum of the others
pub sum_without_flats : (f : Point → Point → ℤ) → IsOdd f → (es fs : List (Point × Point)) (flats : List Triangle) → edge_sum f (edges_of_triangles flats) ≡ pos 0
    → SameNet same_point es (fs ++ edges_of_triangles flats) → edge_sum f es ≡ edge_sum f fs
sum_without_flats f o es fs flats e n =
    omega (arith, ints, e, chain_lemma same_point same_point-equality f o es (fs ++ edges_of_triangles flats) n, edge_sum-append f fs (edges_of_triangles flats))

triangles_area : (ts : List Triangle) → edge_sum shoelace_term (edges_of_triangles ts) ≡ triangle_areas ts
triangles_area ts = triangles_sum shoelace_term (λ t. orient t.a t.b t.c) ts (λ k d l. let t = get_or ts k d in terms_sum t.a t.b t.c)

flats_area : (ts : List Triangle) → All IsFlat ts → edge_sum shoelace_term (edges_of_triangles ts) ≡ pos 0
flats_area ts h = no_sum shoelace_term ts (λ k d l. let t = get_or ts k d in terms_sum t.a t.b t.c ∙ (h k d l).line)

-- edges that triangles and flats make up have the triangles' areas as their shoelace sum
pub area_is_of_its_triangles : (es : List (Point × Point)) (ts flats : List Triangle) → IsCut es ts flats → edge_sum shoelace_term es ≡ triangle_areas ts
area_is_of_its_triangles es ts flats c = sum_without_flats shoelace_term shoelace_term-odd es (edges_of_triangles ts) flats (flats_area flats c.flat) c.net ∙ triangles_area ts

-- the shoelace sum of edges that triangles and flats make up is above 0 where there is a triangle
pub area_is_positive : (es : List (Point × Point)) (ts flats : List Triangle) → IsCut es ts flats → 0 < length ts → pos 0 <ℤ edge_sum shoelace_term es
area_is_positive es [] flats c h = absurd (omega arith)
area_is_positive es (t ∷ ts) flats c h =
    let first : pos 0 <ℤ orient t.a t.b t.c = All-head IsCounterClockwise t ts c.ccw in
    let rest = All-tail IsCounterClockwise t ts c.ccw in
    let more : pos 0 ≤ℤ triangle_areas ts = int_sum_by-not_neg (λ (u : Triangle). orient u.a u.b u.c) ts (λ k d l. let p = rest k d l in omega (arith, ints)) in
    omega (arith, ints, area_is_of_its_triangles es (t ∷ ts) flats c)

-- edges with the net counts of those of pieces and flats have the shoelace sums of the pieces, added
pub area_is_of_its_pieces : (es : List (Point × Point)) (flats : List Triangle) (ps : List CutPiece) → All IsFlat flats
    → SameNet same_point es (all_edges ps ++ edges_of_triangles flats) → edge_sum shoelace_term es ≡ all_areas ps
area_is_of_its_pieces es flats ps h n =
    sum_without_flats shoelace_term shoelace_term-odd es (all_edges ps) flats (flats_area flats h) n
    ∙ int_sum_by-flat_map (λ (e : Point × Point). shoelace_term e.0 e.1) (λ (p : CutPiece). p.edges) ps
