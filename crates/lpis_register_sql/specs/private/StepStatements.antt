-- The statements of a step of writing a release, and those that are left.
use Rattle.std.specs.Prelude.{ℕ, ◌+◌, pos, if◌then◌else◌, List, [], ◌∷◌, ◌++◌, length, map}
use Rattle.lpis_register_rows.specs.Content.{lines_from, marks_from}
use Rattle.lpis_register_rows.specs.Editing.{edits_in}
use Rattle.lpis_register_rows.specs.Shapes.{text_edits}
use Rattle.lpis_register_sql.specs.Stopping.{BoundStatement, edit_statement, ending_statement}
use Rattle.lpis_register_sql.specs.Stopping.{line_statement, mark_statement, span_statement}
use Rattle.lpis_register_sql.specs.Stopping.{year_statement}
use Rattle.lpis_register_sql.specs.declared.steps.RowSteps.{RowSteps}
use Rattle.lpis_register_sql.specs.declared.steps.SpanSteps.{SpanSteps}
use Rattle.lpis_register_sql.specs.declared.steps.Steps.{Steps}
use Rattle.lpis_register_sql.specs.declared.steps.Step.{Step}
use Rattle.lpis_register_sql.specs.declared.steps.Step.TheVariants as code
use Rattle.lpis_register_sql.specs.private.Lines.{row_line}

abbrev pub statements_in : Step → List BoundStatement
statements_in (code.Year year) = year_statement (pos year) ∷ []
statements_in (code.Ends last id) = ending_statement (pos last) id.now ∷ []
statements_in (code.Begins year id) = span_statement (pos year) id.now ∷ []
statements_in (code.Line p) =
    line_statement (row_line (pos p.year) (pos p.position) p.row.now) ∷ []
statements_in (code.Mark p) =
    map mark_statement (marks_from (pos p.year) p.position (p.row.now ∷ []))
statements_in (code.Edit edit) = map edit_statement (edits_in edit)

abbrev pub spans_left : SpanSteps → List BoundStatement
spans_left s = (if s.begun then [] else year_statement (pos s.year) ∷ [])
    ++ (map (ending_statement (pos s.last)) s.dropped.now
    ++ map (span_statement (pos s.year)) s.fresh.now)

abbrev pub rows_left : RowSteps → List BoundStatement
rows_left s = map line_statement (lines_from (pos s.year) s.lines.position s.lines.rows.now)
    ++ (map mark_statement (marks_from (pos s.year) s.marks.position s.marks.rows.now)
    ++ map edit_statement (text_edits s.change.kept.now s.change.shapes.now))

abbrev pub statements_left : Steps → List BoundStatement
statements_left s = spans_left s.spans ++ rows_left s.rows

-- how many steps are left at most

abbrev pub spans_size : SpanSteps → ℕ
spans_size s = (if s.begun then 0 else 1) + (length s.dropped.now + length s.fresh.now)

abbrev pub rows_size : RowSteps → ℕ
rows_size s = length s.lines.rows.now + (length s.marks.rows.now
    + (length s.change.kept.now + length s.change.shapes.now))

abbrev pub size_left : Steps → ℕ
size_left s = spans_size s.spans + rows_size s.rows
