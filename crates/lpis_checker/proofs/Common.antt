-- The names that most proofs of this crate cite, passed on from one place. Declares nothing.
pub use Rattle.lpis_cert.specs.declared.cert.Cert.{Cert}
pub use Rattle.lpis_cert.specs.declared.part.PairLine.{PairLine}
pub use Rattle.lpis_cert.specs.declared.part.PiecePart.{PiecePart}
pub use Rattle.lpis_checker.specs.FirstFault.{HoldBelow}
pub use Rattle.lpis_checker.specs.GoodCertificate.{polygons_of, triangles_of}
pub use Rattle.lpis_checker.specs.SoundMap.{IsInPiece, IsSoundMap}
pub use Rattle.lpis_checker.specs.declared.condition.Condition.TheVariants.{NearPairs}
pub use Rattle.lpis_tables.specs.declared.piece.Piece.{Piece}
pub use Rattle.lpis_release.specs.Release.{Contents, pieces_named}
pub use Rattle.lpis_release.specs.declared.parcel.Parcel.{Parcel}
pub use Rattle.lpis_points.specs.RatPoints.{rational_of}
pub use Rattle.lpis_points.specs.declared.triangle.Triangle.{Triangle}
pub use Rattle.lpis_rings.specs.Edges.{edges_of}
pub use Rattle.std.proofs.lemmas.Bool.{cases_eq, cases_lt}
pub use Rattle.std.proofs.lemmas.Option.{same_Some, slice_get-get_or, slice_get_within}
