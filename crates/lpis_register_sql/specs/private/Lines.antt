-- Rows of the tables by their columns.
use Rattle.std.specs.Prelude.{ℕ, ℤ, List}
use Rattle.lpis_lineage.specs.declared.row.Row.{Row}
use Rattle.lpis_register_rows.specs.Content.{Line, StoredSpan, StoredText, Mark, successor_text}

abbrev pub line_with : ℤ → ℤ → List ℕ → List ℕ → Line
line_with year position old new = record { year = year; position = position; old = old; new = new }

-- the row at a position of a year's release
abbrev pub row_line : ℤ → ℤ → Row → Line
row_line year position row = line_with year position row.old (successor_text row.new)

abbrev pub span_at : List ℕ → ℤ → ℤ → StoredSpan
span_at id since until = record { id = id; since = since; until = until }

abbrev pub text_at : List ℕ → List ℕ → StoredText
text_at id wkt = record { id = id; wkt = wkt }

abbrev pub mark_at : ℤ → ℤ → Mark
mark_at year position = record { year = year; position = position }
