-- The names that most proofs of this crate cite, passed on from one place. Declares nothing.
pub use Rattle.lpis_tables.specs.declared.class.Class.{Class}
pub use Rattle.lpis_tables.specs.declared.piece.Piece.{Piece}
pub use Rattle.lpis_release.specs.Release.{Contents, names_parcel, reference_faults}
pub use Rattle.lpis_release.specs.declared.groups.Join.{Join}
pub use Rattle.lpis_release.specs.private.Groups.{indices_where, joined_pieces}
pub use Rattle.std.proofs.lemmas.Option.{slice_get_read}
