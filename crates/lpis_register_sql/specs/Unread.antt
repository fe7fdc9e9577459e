-- Why a table of the register can't be read.
use Rattle.std.specs.Prelude.{◌≡◌, ◌⊎◌, ◌++◌, ◌∷◌, [], ℕ, IsTrue, List}
use Rattle.std.specs.Prelude.{MatchResult, Result}
use Rattle.sqlite.specs.Clock.{timed}
use Rattle.sqlite.specs.Effect.{Database, RefusesToRead}
use Rattle.sqlite.specs.Given.{IsPlain}
use Rattle.sqlite.specs.Listing.{IsSourceOf, reads_listing, understood}
use Rattle.sqlite.specs.Order.{Row}
use Rattle.sqlite.specs.State.{Begins, HasCleanDisk, IsNoStatement, IsStatement, IsUnchanged}
use Rattle.sqlite.specs.State.{State}
use Rattle.sqlite.specs.declared.error.Error.{Error}
use Rattle.sqlite.specs.declared.error.Error.TheVariants.{SqliteFailure}
use Rattle.sqlite.specs.declared.error.ErrorCode.TheVariants.{OutOfMemory}
use Rattle.sqlite_disk.specs.Disk.{MoreFaults}
use Rattle.sqlite_resolve.specs.declared.compiled.Compiled.{Compiled}
use Rattle.lpis_register_sql.specs.StoredTables.{ColumnKind, HasColumns, StoredTable, is_read}
use Rattle.lpis_register_sql.specs.StoredTables.{kinds_of, query_of}
use Rattle.lpis_register_sql.specs.declared.found.Found.{Found}

-- ---- the engine refuses a query: its text is no plain query of the tables that are there, or it
-- refuses to show its rows, or it shows one that has not such columns

module _ (st : State) (sql : List ℕ) where
  abbrev pub IsRefusedQuery : Type 0
  IsRefusedQuery = (e : Error) × (IsNoStatement st sql [] e
      ⊎ ((c : Compiled) × (it : IsStatement st sql [] c) × (db : Database)
      × IsSourceOf (reads_listing st.now.schema sql) st.now db
      × RefusesToRead st.step_limit c.command db (timed [] c.formats it.now) e))

  abbrev pub ShowsMisfit : List ColumnKind → Type 0
  ShowsMisfit kinds = (rows : List Row) × (row : Row) × Begins sql [] st (rows ++ row ∷ [])
      × ¬ HasColumns kinds row

  abbrev pub IsUnanswered : List ColumnKind → Type 0
  IsUnanswered kinds =
      ¬ IsPlain (understood st.now.schema sql) ⊎ (IsRefusedQuery ⊎ ShowsMisfit kinds)

-- the disk failed between these two, or in the first the engine refuses the query of a table that
-- was found
abbrev pub IsUnread : Found → State → State → Type 0
IsUnread found old new = MoreFaults old.faults new.faults
    ⊎ ((t : StoredTable) × IsTrue (is_read found t) × IsUnanswered old (query_of t) (kinds_of t))

-- a call that reads answers and changes nothing, or it fails since memory was refused, or there is
-- such a cause
abbrev pub Tells : {X : Type 0} → Found → State → State → Result X Error → Type 0
Tells found old new r = HasCleanDisk new → IsTrue old.is_open
    → MatchResult r (λ _. IsUnchanged old new ⊎ IsUnread found old new)
    (λ e. (e ≡ SqliteFailure OutOfMemory) ⊎ IsUnread found old new)
