-- The names that most proofs of this crate cite, passed on from one place. Declares nothing.
pub use Rattle.lpis_points.specs.Chain.{edge_sum}
pub use Rattle.lpis_points.specs.Plane.{shoelace_term}
pub use Rattle.lpis_points.specs.declared.point.Point.{Point}
pub use Rattle.lpis_rings.specs.Area.{absolute_sums, area2, shoelace, steps}
pub use Rattle.lpis_rings.specs.AreaBounds.{most_term}
pub use Rattle.lpis_rings.specs.Edges.{edge_turns, edges_of}
unfoldable pub use Rattle.lpis_rings.specs.Edges.{hole_edges, shell_edges}
pub use Rattle.lpis_rings.specs.Polygon.{member_points, most_points, points_in, points_of}
pub use Rattle.lpis_rings.specs.declared.polygon.Member.{Member}
pub use Rattle.std.proofs.lemmas.Int.{ints}
pub use mir.Syntax.{w128}
