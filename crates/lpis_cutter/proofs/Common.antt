-- The names that most proofs of this crate cite, passed on from one place. Declares nothing.
pub use Rattle.lpis_checker.specs.SoundMap.{IsInPiece}
pub use Rattle.lpis_tables.specs.declared.piece.Piece.{Piece}
pub use Rattle.lpis_points.specs.RatPoints.{rational_of}
pub use Rattle.lpis_rings.specs.Edges.{edges_of}
