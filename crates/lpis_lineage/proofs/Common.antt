-- The names that most proofs of this crate cite, passed on from one place. Declares nothing.
pub use Rattle.lpis_tables.specs.Ids.{has_id, same_id}
pub use Rattle.lpis_lineage.specs.Descendants.{all_rows}
pub use Rattle.lpis_lineage.specs.Faults.{clashes, dropped_faults, fault_before, faults, faults_but_marks, first, marked_row_faults, lineage_row_faults, used_faults}
pub use Rattle.lpis_lineage.specs.Kinds.{named_successors, kind, id_times}
pub use Rattle.lpis_lineage.specs.Lawful.{IsAnswered, IsLawful, RowsFit}
pub use Rattle.lpis_lineage.specs.Lineage.{is_ended, entry_at, holds, is_row_of, is_this, last_live, last_year, names_successor, same_row, succeeded}
pub use Rattle.lpis_lineage.specs.Spans.{first_held, last_held, span_between, span_of}
pub use Rattle.lpis_lineage.specs.declared.fault.LineageFault.{LineageFault}
pub use Rattle.lpis_lineage.specs.declared.row.Entry.{Entry}
pub use Rattle.lpis_lineage.specs.declared.row.Row.{Row}
pub use Rattle.lpis_lineage.specs.declared.span.Span.{Span}
pub use Rattle.lpis_lineage.specs.private.Fates.{AreFates}
pub use Rattle.lpis_lineage.specs.private.Following.{AreFreshRows}
pub use Rattle.lpis_lineage.specs.private.Follows.{Follows}
pub use Rattle.lpis_lineage.specs.private.Keeping.{begun, ended_in, forgotten}
pub use Rattle.lpis_lineage.specs.private.Seen.{IsSeen}
pub use Rattle.lpis_lineage.specs.private.Tally.{IsTally}
pub use Rattle.std.proofs.lemmas.Bool.{cases_Bool, or_left}
pub use Rattle.std.proofs.lemmas.Bool.Decides.{nat_tests}
pub use Rattle.std.proofs.lemmas.List.Folds.{list_any-append}
pub use Rattle.std.specs.Cmp.Lexicographic.{slice_cmp}
pub use Rattle.std.specs.HashMap.{get}
pub use Rattle.std.specs.List.{list_any}
pub use Rattle.std.specs.Option.{option_or}
