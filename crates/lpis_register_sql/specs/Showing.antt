-- What a database's tables show to SELECT, each found by its name: in whatever order they stand,
-- and whatever stands beside them.
use Rattle.std.specs.Prelude.{◌≡◌, ◌∷◌, [], ℤ, Bool, if◌then◌else◌, List, Ok, IfOk}
use Rattle.std.specs.Prelude.{IsTrue, MatchBool, Result, length, map, take}
use Rattle.std.specs.Prelude.{ℕ}
use Rattle.sqlite.specs.Effect.{Database, Reads}
use Rattle.sqlite.specs.Listing.{understood}
use Rattle.sqlite.specs.Order.{Row}
use Rattle.sqlite.specs.State.{HasCleanDisk, IsUnchanged, State}
use Rattle.sqlite.specs.declared.types.Value.TheVariants.{Int}
use Rattle.sqlite_resolve.specs.declared.compiled.Compiled.{Compiled}
use Rattle.lpis_register_rows.specs.Content.{Content, Format, StoredText}
use Rattle.lpis_register_rows.specs.Histories.{only_format}
use Rattle.lpis_register_sql.specs.Holding.{line_row, live_row, mark_row, span_row, text_row}
use Rattle.lpis_register_sql.specs.StoredTables.{Formats, Lines, Lives, Marks, Spans, Texts}
use Rattle.lpis_register_sql.specs.StoredTables.{StoredTable}
use Rattle.lpis_register_sql.specs.StoredTables.{Years, kinds_of, query_of}
use Rattle.lpis_register_sql.specs.declared.found.Found.{Found}

-- the engine understands the text in this database, and these rows are an answer that it gives
pub record AnswersQuery (db : Database) (sql : List ℕ) (rows : List Row) : Type 0 where
  pub compiled : Compiled
  pub is : understood db.schema sql ≡ Ok compiled
  pub reads : Reads compiled.command db [] rows

-- ---- the columns that the queries name

abbrev pub format_columns : Format → Row
format_columns f = Int f.one ∷ Int f.version ∷ []

abbrev pub year_columns : ℤ → Row
year_columns year = Int year ∷ []

-- ---- what the tables show

-- the query of a table has an answer, whose rows have the columns of these, in turn
pub record ShowsTable {X : Type 0} (db : Database) (table : StoredTable) (columns : X → Row)
    (xs : List X) : Type 0 where
  pub rows : List Row
  pub answers : AnswersQuery db (query_of table) rows
  pub are : map (take (length (kinds_of table))) rows ≡ map columns xs

-- so it is where the table is found; else there are none
abbrev pub ShowsFound : {X : Type 0} → Bool → Database → StoredTable → (X → Row) → List X → Type 0
ShowsFound found db table columns xs = MatchBool found (ShowsTable db table columns xs) (xs ≡ [])

-- without `lpis_format`, `lpis_span` tells version 3, and without both there is none
abbrev pub untold_formats : Found → List Format
untold_formats found = if found.spans then only_format 3 else []

abbrev pub ShowsFormats : Found → Database → List Format → Type 0
ShowsFormats found db formats = MatchBool found.format
    (ShowsTable db Formats format_columns formats) (formats ≡ untold_formats found)

-- the tables that are found show this, but for the texts
pub record ShowsRows (found : Found) (db : Database) (c : Content) : Type 0 where
  pub formats_are : ShowsFormats found db c.formats
  pub years_are : ShowsFound found.years db Years year_columns c.years
  pub spans_are : ShowsFound found.spans db Spans span_row c.spans
  pub lines_are : ShowsFound found.lines db Lines line_row c.lines
  pub live_are : ShowsFound found.lives db Lives live_row c.live
  pub marks_are : ShowsFound found.marks db Marks mark_row c.marks

-- and the table of texts these
abbrev pub ShowsTexts : Found → Database → List StoredText → Type 0
ShowsTexts found db texts = ShowsFound found.texts db Texts text_row texts

-- ---- calls that read

-- a connection that shows what it did, and where it is open, is as it was
abbrev pub StaysSame : State → State → Type 0
StaysSame old new = (new.now ≡ old.now) × (IsTrue old.is_open → IsUnchanged old new)

-- with Ok such is shown, and nothing is changed
pub record Shows {X E : Type 0} (Says : Database → X → Type 0) (old new : State) (r : Result X E)
    : Type 0 where
  pub ok : HasCleanDisk new → IfOk r (λ x. Says old.now x × StaysSame old new)
