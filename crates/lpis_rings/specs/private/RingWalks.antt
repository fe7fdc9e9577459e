-- The edges of a polygon, ring by ring.
use Rattle.std.specs.Prelude.{List, ◌∷◌, map, flat_map}
use Rattle.lpis_points.specs.declared.point.Point.{Point}
use Rattle.lpis_rings.specs.declared.polygon.Member.{Member}
use Rattle.lpis_rings.specs.Edges.{shell_edges, hole_edges}

abbrev pub member_walks : Member → List (List (Point × Point))
member_walks m = shell_edges m.shell ∷ map hole_edges m.holes

abbrev pub walks_of : List Member → List (List (Point × Point))
walks_of members = flat_map member_walks members

-- the edges, walk after walk
abbrev pub joined_walks : List (List (Point × Point)) → List (Point × Point)
joined_walks walks = flat_map (λ walk. walk) walks
