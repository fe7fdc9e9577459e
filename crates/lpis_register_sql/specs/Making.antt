-- The statements that make the register's tables, and that move them to version 3.
use Rattle.std.specs.Prelude.{Bool, List, [], ◌∷◌, ◌++◌, ℕ, if◌then◌else◌, map}
use Rattle.std.specs.List.{flat_map}
use Rattle.lpis_register_rows.specs.Content.{StoredSpan}
use Rattle.lpis_register_rows.specs.declared.version.Version.{Version}
use Rattle.lpis_register_rows.specs.declared.version.Version.TheVariants.{First, Second, Third}
use Rattle.lpis_register_sql.specs.Holding.{span_row}
use Rattle.lpis_register_sql.specs.Statements.{clear_live, clear_mark, clear_span, clear_text}
use Rattle.lpis_register_sql.specs.Statements.{insert_format, insert_whole_span, make_format}
use Rattle.lpis_register_sql.specs.Statements.{make_mark, make_release, make_row, make_span}
use Rattle.lpis_register_sql.specs.Statements.{make_text, set_version}
use Rattle.lpis_register_sql.specs.Stopping.{BoundStatement}
use Rattle.lpis_register_sql.specs.declared.found.Found.{Found}

-- a statement without parameters
abbrev pub plain_statement : List ℕ → BoundStatement
plain_statement sql = record { sql = sql; values = [] }

-- a statement, where its table was not found
abbrev pub unless : Bool → List ℕ → List BoundStatement
unless found sql = if found then [] else plain_statement sql ∷ []

-- the tables that lack, each before those that refer to it, and the version where none was found
abbrev pub completing_statements : Found → List BoundStatement
completing_statements found = flat_map (λ (it : Bool × List ℕ). unless it.0 it.1)
    ((found.format, make_format) ∷ (found.years, make_release) ∷ (found.spans, make_span)
    ∷ (found.lines, make_row) ∷ (found.texts, make_text) ∷ (found.marks, make_mark)
    ∷ (found.format, insert_format) ∷ [])

-- a span, when it began and when it ended
abbrev pub whole_span_statement : StoredSpan → BoundStatement
whole_span_statement s = record { sql = insert_whole_span; values = span_row s }

-- no live row is left, where their table was found
abbrev pub lives_emptied : Found → List BoundStatement
lives_emptied found = if found.lives then plain_statement clear_live ∷ [] else []

-- these spans in place of any, and no live rows
abbrev pub spans_in_place : Found → List StoredSpan → List BoundStatement
spans_in_place found spans = (plain_statement clear_span ∷ [])
    ++ (map whole_span_statement spans ++ lives_emptied found)

-- version 3, with no text and no mark
abbrev pub version_in_place : List BoundStatement
version_in_place = plain_statement clear_text ∷ plain_statement clear_mark
    ∷ plain_statement set_version ∷ []

-- from version 2 to version 3
abbrev pub raising_statements : Found → List BoundStatement
raising_statements found = completing_statements found ++ version_in_place

-- from version 1, whose rows are of these spans, to version 3
abbrev pub moving_statements : Found → List StoredSpan → List BoundStatement
moving_statements found spans =
    completing_statements found ++ (spans_in_place found spans ++ version_in_place)

-- from a version to version 3: of version 1 with these spans
abbrev pub settling_statements : Version → Found → List StoredSpan → List BoundStatement
settling_statements First found spans = moving_statements found spans
settling_statements Second found spans = raising_statements found
settling_statements Third found spans = completing_statements found
