-- Why the database fails when a register is opened.
use Rattle.std.specs.Prelude.{◌≡◌, ◌≤◌, ◌⊎◌, [], false, true, List}
use Rattle.sqlite.specs.Held.{Held, state}
use Rattle.sqlite.specs.State.{HasCleanDisk, IsUnchanged}
use Rattle.sqlite_trees.specs.declared.store.Store.{Ghosts}
use Rattle.lpis_lineage.specs.declared.row.Entry.{Entry}
use Rattle.lpis_register_rows.specs.Shapes.{Shape}
use Rattle.lpis_register_rows.specs.declared.version.Version.{Version}
use Rattle.lpis_register_rows.specs.declared.version.Version.TheVariants.{Third}
use Rattle.lpis_register_sql.specs.Hiding.{hides_table}
use Rattle.lpis_register_sql.specs.Making.{settling_statements}
use Rattle.lpis_register_sql.specs.Presence.{AreThere, is_any}
use Rattle.lpis_register_sql.specs.Stopping.{IsStopped}
use Rattle.lpis_register_sql.specs.Unread.{IsUnread}
use Rattle.lpis_register_sql.specs.declared.found.Found.{Found}
use Rattle.lpis_register.specs.Failing.{RunsUnsaid}
use Rattle.lpis_register.specs.Opening.{Settling}
use Rattle.lpis_register.specs.Saying.{SaysTables}

module _ {S : Type 0} (store : Ghosts S) where
  -- tables that say this do not become those of version 3: the disk failed during the call, or the
  -- engine refuses one of the statements; or it ran them, and the tables then are not read, or say
  -- something else
  pub record FailsToSettle (version : Version) (h : List Entry) (shapes : List Shape)
      (old new : Held S) : Type 0 where
    pub by : Settling version h old
    pub fails : IsStopped store (settling_statements version by.found by.spans)
        (record old { in_transaction = true }) new
        ⊎ RunsUnsaid store (settling_statements version by.found by.spans) h shapes old new

  -- so it is with the tables that were found, once they were read, which changed nothing: with the
  -- version, the history and the shapes that they say
  pub record FailsAfterReading (found : Found) (old new : Held S) : Type 0 where
    pub read : Held S
    pub unchanged : IsUnchanged (state store old) (state store read)
    pub limit : read.step_limit ≡ old.step_limit
    pub counts : (state store old).faults ≤ (state store read).faults
    pub version : Version
    pub history : List Entry
    pub shapes : List Shape
    pub said : SaysTables found (state store old).now version history shapes
    pub fails : FailsToSettle version history shapes read new

  -- the tables that were found are there, and one of them is not read, or that
  abbrev pub FailsWith : Found → Held S → Held S → Type 0
  FailsWith found old new = IsUnread found (state store old) (state store new)
      ⊎ FailsAfterReading found old new

  -- a call fails to open a register: the connection was shut before, or a table of the register is
  -- there unseen, or the disk failed during the call, or the engine refuses the query of a table
  -- that is there; or tables are not made those of version 3, where there was none as well
  abbrev pub FailsToOpen : Held S → Held S → Type 0
  FailsToOpen old new = ((state store old).is_open ≡ false) ⊎ ((hides_table old.schema ≡ true)
      ⊎ ((found : Found) × AreThere old.schema found
      × (((is_any found ≡ true) × FailsWith found old new)
      ⊎ ((is_any found ≡ false) × FailsToSettle Third [] [] old new))))

  -- if the disk kept what was written, and this says that the database failed, there is a cause
  abbrev pub HasOpeningCause : Held S → Held S → Type 0 → Type 0
  HasOpeningCause old new Failed = HasCleanDisk (state store new) → Failed → FailsToOpen old new
