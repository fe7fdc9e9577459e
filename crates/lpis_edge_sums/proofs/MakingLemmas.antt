-- A whole that its parts make up.
use Rattle.std.proofs.Common.{◌≡◌, ℤ, pos, ◌+ℤ◌, ◌<ℤ◌, List, [], ◌∷◌, ◌++◌, ◌↔◌, All, Any, ap, ap₂, sym, refl, ◌∙◌, subst}
use Rattle.lpis_points.specs.declared.point.Point.{Point}
use Rattle.lpis_points.specs.declared.triangle.Triangle.{Triangle}
use Rattle.lpis_points.specs.Plane.{RationalPoint, same_point}
use Rattle.lpis_points.specs.Triangles.{IsFlat}
use Rattle.lpis_points.specs.Chain.{SameNet}
use Rattle.lpis_points.specs.Sums.{int_sum_by}
use Rattle.lpis_rings.specs.declared.polygon.Member.{Member}
use Rattle.lpis_rings.specs.Area.{area2}
use Rattle.lpis_rings.specs.Edges.{edges_of, turns, Contains}
use Rattle.lpis_rings.specs.Map.{edges_of_triangles, CutPiece, all_edges, all_turns, all_areas, IsOneOrNone}
use Rattle.lpis_rings.proofs.Shared.{parcel_is_its_pieces, area_is_of_its_pieces, area2_is, contains_by_one_turn}
use Rattle.lpis_edge_sums.specs.Counting.{AtMostOne, ExactlyOne}
use Rattle.lpis_edge_sums.specs.Making.{edges_of_all, EdgesCancel, turns_of_all, TurnsAsParts, IsMadeUpOf, TurnsAtMostOnce}
use Rattle.lpis_edge_sums.proofs.CountingLemmas.{found_any, any_found, all_at, at_most_one, one_found, total_one, few_total}

-- ---- the parts as pieces without triangles
abbrev bare : List (List Member) → List CutPiece
bare [] = []
bare (x ∷ xs) = record { edges = edges_of x; triangles = []; flats = [] } ∷ bare xs

bare_edges : (xs : List (List Member)) → all_edges (bare xs) ≡ edges_of_all xs
bare_edges [] = refl
bare_edges (x ∷ xs) = ap (λ (es : List (Point × Point)). edges_of x ++ es) (bare_edges xs)

bare_turns : (xs : List (List Member)) (s : RationalPoint) → all_turns (bare xs) s ≡ turns_of_all xs s
bare_turns [] s = refl
bare_turns (x ∷ xs) s = ap (λ (z : ℤ). turns x s +ℤ z) (bare_turns xs s)

bare_areas : (xs : List (List Member)) → all_areas (bare xs) ≡ int_sum_by area2 xs
bare_areas [] = refl
bare_areas (x ∷ xs) = ap₂ (λ (a b : ℤ). a +ℤ b) (area2_is x) (bare_areas xs)

bare_net : (whole : List Member) (parts : List (List Member)) (flats : List Triangle) → EdgesCancel whole parts flats
    → SameNet same_point (edges_of whole) (all_edges (bare parts) ++ edges_of_triangles flats)
bare_net whole parts flats n = subst (λ (es : List (Point × Point)). SameNet same_point (edges_of whole) (es ++ edges_of_triangles flats)) (sym (bare_edges parts)) n

-- a whole whose edges cancel against those of its parts and of flats turns as its parts together
pub turns_as_parts : (whole : List Member) (parts : List (List Member)) (flats : List Triangle) → All IsFlat flats → EdgesCancel whole parts flats → TurnsAsParts whole parts
turns_as_parts whole parts flats h n = record {
  turns_add = λ p d. parcel_is_its_pieces (edges_of whole) flats (bare parts) h (bare_net whole parts flats n) p d ∙ bare_turns parts p;
}

-- a whole whose edges cancel against those of its parts and of flats has the areas of its parts, added
pub area_as_parts : (whole : List Member) (parts : List (List Member)) (flats : List Triangle) → All IsFlat flats → EdgesCancel whole parts flats → area2 whole ≡ int_sum_by area2 parts
area_as_parts whole parts flats h n =
    sym (area2_is whole) ∙ area_is_of_its_pieces (edges_of whole) flats (bare parts) h (bare_net whole parts flats n) ∙ bare_areas parts

-- ---- which points lie in the whole
abbrev turns_at : RationalPoint → List Member → ℤ
turns_at p x = turns x p

abbrev OneAt : RationalPoint → List Member → Type 0
OneAt p x = IsOneOrNone (turns x p)

abbrev IsIn : RationalPoint → List Member → Type 0
IsIn p x = Contains x p

once_at : (p : RationalPoint) → pos 0 <ℤ p.d → (parts : List (List Member)) → All TurnsAtMostOnce parts → All (OneAt p) parts
once_at p d parts h = λ k e l. (h k e l).turns p d

-- at a point at which the parts turn once at most, and the whole as they do and once at most
made_at : (whole : List Member) (parts : List (List Member)) (p : RationalPoint) → turns whole p ≡ turns_of_all parts p → All (OneAt p) parts
    → IsOneOrNone (turns whole p) → Contains whole p ↔ ExactlyOne (IsIn p) parts
made_at whole parts p t h o = (λ c. (some c, few), λ x. inside x.0)
  where
    in_part : (x : List Member) → OneAt p x → Contains x p ↔ (turns x p ≡ pos 1)
    in_part x one = contains_by_one_turn x p one

    sum : IsOneOrNone (turns_of_all parts p)
    sum = subst IsOneOrNone t o

    some : Contains whole p → Any (IsIn p) parts
    some c =
        let f = one_found (turns_at p) parts h (sym t ∙ (contains_by_one_turn whole p o).0 c) in
        found_any (IsIn p) parts (record { index = f.index; item = f.item; at = f.at; has = (in_part f.item (all_at (OneAt p) parts f.index f.item f.at h)).1 f.has })

    few : AtMostOne (IsIn p) parts
    few i j a b e f x y =
        at_most_one (turns_at p) parts h sum i j a b e f ((in_part a (all_at (OneAt p) parts i a e h)).0 x) ((in_part b (all_at (OneAt p) parts j b f h)).0 y)

    inside : Any (IsIn p) parts → Contains whole p
    inside a =
        let f = any_found (IsIn p) parts a in
        (contains_by_one_turn whole p o).1 (t ∙ total_one (turns_at p) parts h sum
        (record { index = f.index; item = f.item; at = f.at; has = (in_part f.item (all_at (OneAt p) parts f.index f.item f.at h)).0 f.has }))

-- a whole that turns as its parts together is made up of them where it and each part turn once at most
pub merge_is_exact : (whole : List Member) (parts : List (List Member)) → TurnsAsParts whole parts → TurnsAtMostOnce whole → All TurnsAtMostOnce parts → IsMadeUpOf whole parts
merge_is_exact whole parts t o h = record {
  contains = λ p d. made_at whole parts p (t.turns_add p d) (once_at p d parts h) (o.turns p d);
}

-- a whole that turns as its parts together is made up of them where each turns once at most and no two share a point
pub split_is_exact : (whole : List Member) (parts : List (List Member)) → TurnsAsParts whole parts → All TurnsAtMostOnce parts
    → ((p : RationalPoint) → pos 0 <ℤ p.d → AtMostOne (IsIn p) parts) → IsMadeUpOf whole parts
split_is_exact whole parts t h m = record { contains = λ p d. at p d }
  where
    at : (p : RationalPoint) → pos 0 <ℤ p.d → Contains whole p ↔ ExactlyOne (IsIn p) parts
    at p d =
        let each = once_at p d parts h in
        let ones : AtMostOne (λ x. turns x p ≡ pos 1) parts = λ i j a b e f x y.
        m p d i j a b e f ((contains_by_one_turn a p (all_at (OneAt p) parts i a e each)).1 x) ((contains_by_one_turn b p (all_at (OneAt p) parts j b f each)).1 y) in
        made_at whole parts p (t.turns_add p d) each (subst IsOneOrNone (sym (t.turns_add p d)) (few_total (turns_at p) parts each ones))
