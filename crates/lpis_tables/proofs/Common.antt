-- The names that most proofs of this crate cite, passed on from one place. Declares nothing.
pub use Rattle.csv.specs.Reading.{default_config}
unfoldable pub use Rattle.csv.specs.Reading.{strip_bom}
pub use Rattle.csv.specs.Records.{fields_of}
pub use Rattle.lpis_tables.specs.Faults.{polygon_in, unless_faulty}
pub use Rattle.lpis_tables.specs.Table.{Answers, Fields, Reading, field_at_place, field_of, flat, has_mark, one_place, picked, texts, under_header}
unfoldable pub use Rattle.lpis_tables.specs.Table.{places_of}
pub use Rattle.lpis_tables.specs.private.Columns.{after_places}
pub use Rattle.lpis_tables.specs.declared.fault.Table.{Table}
pub use Rattle.lpis_tables.specs.declared.fault.TableFault.{TableFault}
pub use Rattle.lpis_tables.specs.declared.fault.TableFault.TheVariants.{At}
pub use Rattle.std.proofs.lemmas.Bool.Decides.{nat_tests}
pub use Rattle.std.proofs.lemmas.Result.{err_from_is_err_and}
