-- The names that most proofs of this crate cite, passed on from one place. Declares nothing.
pub use Rattle.lpis_points.specs.Plane.{RationalPoint, crossing_of, same_point}
unfoldable pub use Rattle.lpis_points.specs.Plane.{crossing, orient, orient_at}
pub use Rattle.lpis_points.specs.Triangles.{IsCounterClockwise, is_inside}
pub use Rattle.lpis_points.specs.declared.point.Point.{Point}
pub use Rattle.lpis_points.specs.declared.triangle.Triangle.{Triangle}
pub use Rattle.std.proofs.Math.IntN.{*ℤ_comm}
pub use Rattle.std.proofs.lemmas.Int.{by_lt_z, ints}
pub use Rattle.std.specs.Int.{w128}
