-- Rows as the queries show them.
use Rattle.std.specs.Prelude.{ℕ, ℤ, [], List}
use Rattle.sqlite.specs.declared.types.Value.{Value}
use Rattle.sqlite.specs.declared.types.Value.TheVariants.{Null, Int, Real, Text, Blob}
use Rattle.sqlite.specs.Order.{Row, column}
use Rattle.sqlite.specs.Edit.{id_in}
use Rattle.lpis_register_rows.specs.Content.{Format, StoredSpan, Line, Live, StoredText, Mark}
use Rattle.lpis_register_sql.specs.StoredTables.{Formats, Lines, Lives, Marks, Spans, Texts, Years}
use Rattle.lpis_register_sql.specs.StoredTables.{query_of}

abbrev pub text_in : Value → List ℕ
text_in Null = []
text_in (Int n) = []
text_in (Real x) = []
text_in (Text t) = t
text_in (Blob b) = []

abbrev pub format_shown : Row → Format
format_shown row = record { one = id_in (column row 0); version = id_in (column row 1) }

abbrev pub year_shown : Row → ℤ
year_shown row = id_in (column row 0)

abbrev pub span_shown : Row → StoredSpan
span_shown row = record {
  id = text_in (column row 0);
  since = id_in (column row 1);
  until = id_in (column row 2);
}

abbrev pub line_shown : Row → Line
line_shown row = record {
  year = id_in (column row 0);
  position = id_in (column row 1);
  old = text_in (column row 2);
  new = text_in (column row 3);
}

abbrev pub live_shown : Row → Live
live_shown row = record { year = id_in (column row 0); id = text_in (column row 1) }

abbrev pub text_shown : Row → StoredText
text_shown row = record { id = text_in (column row 0); wkt = text_in (column row 1) }

abbrev pub mark_shown : Row → Mark
mark_shown row = record { year = id_in (column row 0); position = id_in (column row 1) }

-- ---- the queries

abbrev pub read_format : List ℕ
read_format = query_of Formats

abbrev pub read_release : List ℕ
read_release = query_of Years

abbrev pub read_span : List ℕ
read_span = query_of Spans

abbrev pub read_line_text : List ℕ
read_line_text = query_of Lines

abbrev pub read_live : List ℕ
read_live = query_of Lives

abbrev pub read_text : List ℕ
read_text = query_of Texts

abbrev pub read_mark : List ℕ
read_mark = query_of Marks
