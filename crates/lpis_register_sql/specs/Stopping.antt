-- The statements that write a release, and why statements stop.
use Rattle.std.specs.Prelude.{◌≡◌, ◌⊎◌, true, ℕ, ℤ, List, [], ◌∷◌, ◌++◌, map, Ok, Err, None}
use Rattle.sqlite.specs.Does.{Does}
use Rattle.sqlite.specs.Clock.{timed}
use Rattle.sqlite_resolve.specs.declared.compiled.Compiled.{Compiled}
use Rattle.sqlite.specs.Held.{Held, state}
use Rattle.sqlite.specs.Order.{Row as Values}
use Rattle.sqlite.specs.State.{Commits, ExecutesInside, IsStatement, State, mode_of, text_of}
use Rattle.sqlite.specs.declared.error.Error.{Error}
use Rattle.sqlite.specs.declared.error.Error.TheVariants.{SqliteFailure}
use Rattle.sqlite.specs.declared.error.ErrorCode.TheVariants.{OutOfMemory}
use Rattle.sqlite.specs.declared.types.Value.TheVariants.{Int, Text}
use Rattle.sqlite_disk.specs.Disk.{MoreFaults}
use Rattle.sqlite_trees.specs.declared.store.Store.{Ghosts}
use Rattle.lpis_lineage.specs.declared.row.Row.{Row}
use Rattle.lpis_register_rows.specs.Content.{Line, Mark, lines_from, marks_from}
use Rattle.lpis_register_rows.specs.Content.{TextEdit, Deletes, Replaces, Inserts}
use Rattle.lpis_register_sql.specs.Holding.{line_row, mark_row, text_row}
use Rattle.lpis_register_sql.specs.Statements.{insert_release, insert_span, insert_line, end_span}
use Rattle.lpis_register_sql.specs.Statements.{insert_text, replace_text, delete_text, insert_mark}

-- a statement, and the values of its parameters
pub record BoundStatement : Type 0 where
  pub sql : List ℕ
  pub values : Values

-- ---- the statements of a release

-- its year
abbrev pub year_statement : ℤ → BoundStatement
year_statement year = record { sql = insert_release; values = Int year ∷ [] }

-- the end of the span of an identifier that it drops, with the year of the last release
abbrev pub ending_statement : ℤ → List ℕ → BoundStatement
ending_statement last id = record { sql = end_span; values = Int last ∷ Text id ∷ [] }

-- the span of an identifier that is new with it
abbrev pub span_statement : ℤ → List ℕ → BoundStatement
span_statement year id = record { sql = insert_span; values = Text id ∷ Int year ∷ [] }

-- a row of lineage
abbrev pub line_statement : Line → BoundStatement
line_statement l = record { sql = insert_line; values = line_row l }

-- the mark of such a row
abbrev pub mark_statement : Mark → BoundStatement
mark_statement m = record { sql = insert_mark; values = mark_row m }

-- what becomes of the text of a parcel's shape
abbrev pub edit_statement : TextEdit → BoundStatement
edit_statement (Deletes id) = record { sql = delete_text; values = Text id ∷ [] }
edit_statement (Replaces t) = record { sql = replace_text; values = Text t.wkt ∷ Text t.id ∷ [] }
edit_statement (Inserts t) = record { sql = insert_text; values = text_row t }

-- its year, and the spans of the identifiers that it drops and of those that are new
abbrev pub span_statements : (year last : ℤ) (dropped fresh : List (List ℕ)) → List BoundStatement
span_statements year last dropped fresh =
    year_statement year
    ∷ map (ending_statement last) dropped ++ map (span_statement year) fresh

-- its rows, their marks, and what becomes of the texts
abbrev pub row_statements : ℤ → List Row → List TextEdit → List BoundStatement
row_statements year rows edits =
    map line_statement (lines_from year 0 rows)
    ++ (map mark_statement (marks_from year 0 rows) ++ map edit_statement edits)

-- all of them, in turn
abbrev pub release_statements : (year last : ℤ) (dropped fresh : List (List ℕ)) → List Row
    → List TextEdit → List BoundStatement
release_statements year last dropped fresh rows edits =
    span_statements year last dropped fresh ++ row_statements year rows edits

-- ---- why they stop

-- the engine refuses the statement inside a transaction for what it finds there, or since the
-- connection has a limit of steps: nothing failed, and nothing changes; or a row of it is too large
-- for the store
abbrev pub IsRefusedIn : State → BoundStatement → Type 0
IsRefusedIn st x = ((e : Error) × ExecutesInside 0 x.sql x.values st st (Err e))
    ⊎ ((c : Compiled) × (it : IsStatement st x.sql x.values c)
    × Does st.step_limit (mode_of st) (timed x.values c.formats it.now) st.now (text_of x.sql c)
    c.returning c.command (Err None))

module _ {S : Type 0} (store : Ghosts S) where
  -- inside a transaction the engine ran these statements, in turn, under one limit of steps
  abbrev pub Ran : List BoundStatement → Held S → Held S → Type 0
  Ran [] old new = old ≡ new
  Ran (x ∷ xs) old new = (mid : Held S) × (count : ℕ)
      × ExecutesInside 0 x.sql x.values (state store old) (state store mid) (Ok count)
      × (mid.step_limit ≡ old.step_limit) × Ran xs mid new

  -- it ran them in a transaction of their own, and committed that
  abbrev pub RanAlone : List BoundStatement → Held S → Held S → Type 0
  RanAlone xs old new = (last : Held S) × Ran xs (record old { in_transaction = true }) last
      × Commits (state store last) (state store new)

  -- it ran those before one of them, and refuses that one
  pub record IsStuck (xs : List BoundStatement) (old : Held S) : Type 0 where
    pub before : List BoundStatement
    pub next : BoundStatement
    pub after : List BoundStatement
    pub are : xs ≡ before ++ next ∷ after
    pub reached : Held S
    pub ran : Ran before old reached
    pub refused : IsRefusedIn (state store reached) next

  -- the disk failed between these two, or the engine refuses one of the statements
  abbrev pub IsStopped : List BoundStatement → Held S → Held S → Type 0
  IsStopped xs old new =
      MoreFaults (state store old).faults (state store new).faults ⊎ IsStuck xs old

  -- why these statements stop: memory was refused, or that
  abbrev pub StopsWithin : List BoundStatement → Held S → Held S → Error → Type 0
  StopsWithin xs old new e = (e ≡ SqliteFailure OutOfMemory) ⊎ IsStopped xs old new
