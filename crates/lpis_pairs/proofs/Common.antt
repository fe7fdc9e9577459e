-- The names that most proofs of this crate cite, passed on from one place. Declares nothing.
pub use Rattle.lpis_pairs.specs.NearPairs.{IsNear}
pub use Rattle.lpis_pairs.specs.declared.events.Event.{Event}
pub use Rattle.lpis_pairs.specs.declared.extents.Extent.{Extent}
pub use Rattle.lpis_pairs.specs.private.Strips.{extent_of}
pub use Rattle.lpis_pairs.specs.private.Sweeping.{event}
pub use Rattle.lpis_points.specs.declared.triangle.Triangle.{Triangle}
pub use Rattle.std.proofs.lemmas.Bool.Decides.{nat_tests}
pub use Rattle.std.proofs.lemmas.Option.{get_or_from_slice_get, same_Some, slice_get_within}
