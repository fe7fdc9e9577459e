-- The edges of polygons, listed as the rings are written, and which of them a point crosses.
use Rattle.std.specs.Prelude.{pos, Bool, cond, not, List, [], ◌∷◌, ◌++◌}
use Rattle.std.specs.Ordering.{int_eq}
use Rattle.lpis_points.specs.declared.point.Point.{Point}
use Rattle.lpis_points.specs.Plane.{RationalPoint, crossing}
use Rattle.lpis_rings.specs.declared.polygon.Member.{Member}
use Rattle.lpis_places.specs.declared.edges.Edge.{Edge}

-- the edge is crossed
abbrev pub is_crossed : RationalPoint → Point → Point → Bool
is_crossed p a b = not (int_eq (crossing a b p) (pos 0))

-- the edges of a ring
abbrev pub drawn : List Point → List Edge
drawn [] = []
drawn (a ∷ []) = []
drawn (a ∷ (b ∷ ps)) = record { from = a; to = b } ∷ drawn (b ∷ ps)

-- those of rings, of a member and of members
abbrev pub drawn_rings : List (List Point) → List Edge
drawn_rings [] = []
drawn_rings (ring ∷ rings) = drawn ring ++ drawn_rings rings

abbrev pub drawn_member : Member → List Edge
drawn_member m = drawn m.shell ++ drawn_rings m.holes

abbrev pub drawn_members : List Member → List Edge
drawn_members [] = []
drawn_members (m ∷ ms) = drawn_member m ++ drawn_members ms

-- what was said of a point, turned round at each of these edges that it crosses
abbrev pub flipped : Bool → RationalPoint → List Edge → Bool
flipped is p [] = is
flipped is p (e ∷ es) = flipped (cond (is_crossed p e.from e.to) (not is) is) p es
