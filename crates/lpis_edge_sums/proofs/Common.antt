-- The names that most proofs of this crate cite, passed on from one place. Declares nothing.
pub use Rattle.lpis_edge_sums.specs.Making.{corners_of, polygons}
pub use Rattle.lpis_edge_sums.specs.declared.signed.SignedEdge.{SignedEdge}
pub use Rattle.lpis_edge_sums.specs.private.SignedEdges.{IsGrouped, point_order, sum_at, edge_sign}
pub use Rattle.lpis_points.specs.Plane.{same_point}
pub use Rattle.lpis_points.specs.declared.point.Point.{Point}
pub use Rattle.std.proofs.lemmas.Int.{ints}
pub use Rattle.std.proofs.lemmas.Option.{slice_get_within}
