-- The names that most proofs of this crate cite, passed on from one place. Declares nothing.
pub use Rattle.lpis_tables.specs.Ids.{has_id, is_id, same_id}
pub use Rattle.lpis_lineage.proofs.Shared.{above-zero, filter-none, in-history, before-at-after, same-exact, same-refl, take-at}
pub use Rattle.lpis_lineage.specs.Lawful.{IsLawful, RowsFit}
pub use Rattle.lpis_lineage.specs.Lineage.{entry_at, holds, last_live, names_successor}
pub use Rattle.lpis_lineage.specs.Spans.{first_held, last_held, span_of}
pub use Rattle.lpis_lineage.specs.declared.row.Entry.{Entry}
pub use Rattle.lpis_lineage.specs.declared.row.Row.{Row}
pub use Rattle.lpis_register_rows.specs.Content.{Content, Line, Live, Mark, StoredSpan, lines_from, successor_text}
pub use Rattle.lpis_register_rows.specs.Histories.{IsKeptHistory, IsSameHistory, IsSpanRow, AreLiveOf, AreSpansOf, HasHistoryByLive}
pub use Rattle.lpis_register_rows.specs.Histories.{HasHistoryBySpans, last_of_years, lineage_lines, marks_of, only_format}
pub use Rattle.lpis_register_rows.specs.Histories.{years_of}
pub use Rattle.lpis_register_rows.specs.declared.known.KnownLine.{KnownLine}
pub use Rattle.lpis_register_rows.specs.declared.known.KnownSpan.{KnownSpan}
pub use Rattle.lpis_register_rows.specs.private.Covering.{covers}
pub use Rattle.lpis_register_rows.specs.private.Fronts.{HasKnownHistory}
pub use Rattle.lpis_register_rows.specs.private.Known.{HasText, SetsAre, all_live, known_from, known_of, line_in, one_year, span_in}
pub use Rattle.lpis_register_rows.specs.private.Marking.{marks_in, walked}
pub use Rattle.std.proofs.lemmas.Bool.{or_left, or_right}
pub use Rattle.std.proofs.lemmas.Bool.Decides.{nat_tests}
pub use Rattle.std.proofs.lemmas.List.{map-append}
pub use Rattle.std.proofs.lemmas.List.Elements.{All-from_recursion, All-push, recursion_from_All}
pub use Rattle.std.proofs.lemmas.List.Sorted.{All-permutation, IsPermutation-sym, IsPermutation-trans}
pub use Rattle.std.proofs.lemmas.Result.{err_from_is_err_and}
pub use Rattle.std.specs.Cmp.{both_ways}
pub use Rattle.std.specs.Cmp.Lexicographic.{slice_cmp}
pub use Rattle.std.specs.List.{AllByRecursion, list_any}
