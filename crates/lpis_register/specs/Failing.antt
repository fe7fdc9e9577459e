-- Why the database fails when a release is published, and when its tables are read.
use Rattle.std.specs.Prelude.{◌≡◌, ◌≤◌, ◌⊎◌, false, pos, true, List, ℕ}
use Rattle.sqlite.specs.Effect.{Database}
use Rattle.sqlite.specs.Held.{Held, state}
use Rattle.sqlite.specs.State.{HasCleanDisk, State}
use Rattle.sqlite_trees.specs.declared.store.Store.{Ghosts}
use Rattle.lpis_lineage.specs.Lineage.{last_year}
use Rattle.lpis_lineage.specs.declared.row.Entry.{Entry}
use Rattle.lpis_register_rows.specs.Histories.{IsSameHistory}
use Rattle.lpis_register_rows.specs.Shapes.{Shape, text_edits}
use Rattle.lpis_register_rows.specs.declared.version.Version.{Version}
use Rattle.lpis_register_sql.specs.Stopping.{BoundStatement, IsStopped, Ran}
use Rattle.lpis_register_sql.specs.Stopping.{release_statements}
use Rattle.lpis_register_sql.specs.Presence.{AreThere}
use Rattle.lpis_register_sql.specs.Unread.{IsUnread}
use Rattle.lpis_register_sql.specs.declared.found.Found.{Found}
use Rattle.lpis_register.specs.Accepting.{IsAccepted, IsPrepared}
use Rattle.lpis_register.specs.Holdings.{Candidate, Holdings, RegisterState, holdings}
use Rattle.lpis_register.specs.Publishing.{FollowsHistory}
use Rattle.lpis_register.specs.Saying.{SaysNoTables, SaysTables}
use Rattle.lpis_register.specs.declared.accepting.Accepted.{Accepted}
use Rattle.lpis_register.specs.declared.accepting.Writing.{Writing}

-- the statements that write an accepted release when this is held
abbrev pub writing_statements : Writing → Holdings → List BoundStatement
writing_statements w before =
    release_statements (pos w.year) (pos (last_year before.history)) w.change.dropped_ids
    w.fresh.items w.change.rows (text_edits before.shapes w.shapes.items)

-- they say no register, or another than this: a history that differs in a year, a set or a row, or
-- other shapes
abbrev pub SaysOther : Found → Database → List Entry → List Shape → Type 0
SaysOther found db h shapes = SaysNoTables found db ⊎ ((version : Version) × (k : List Entry)
    × (others : List Shape) × SaysTables found db version k others
    × (IsSameHistory k h → others ≡ shapes → ⊥))

-- the tables that were found don't say this: `lpis_release` is not among them, or one is not read,
-- or they say something else
abbrev pub IsUnsaid : Found → State → State → List Entry → List Shape → Type 0
IsUnsaid found old new h shapes =
    (found.years ≡ false) ⊎ (IsUnread found old new ⊎ SaysOther found old.now h shapes)

module _ {S : Type 0} (store : Ghosts S) where
  -- a call fails to run statements in a transaction: the connection was shut before, or the disk
  -- failed during the call, or the engine refuses one of them: for what it finds in the tables, for
  -- the size of a row, or since the connection has a limit of steps
  abbrev pub FailsToRun : List BoundStatement → Held S → Held S → Type 0
  FailsToRun xs old new = ((state store old).is_open ≡ false)
      ⊎ IsStopped store xs (record old { in_transaction = true }) new

  -- the engine ran these statements, and the tables then do not say this
  pub record RunsUnsaid (xs : List BoundStatement) (h : List Entry) (shapes : List Shape)
      (old new : Held S) : Type 0 where
    pub reached : Held S
    pub counts : (state store old).faults ≤ (state store reached).faults
    pub ran : Ran store xs (record old { in_transaction = true }) reached
    pub found : Found
    pub there : AreThere reached.schema found
    pub unsaid : IsUnsaid found (state store reached) (state store new) h shapes

  -- the engine ran the statements of an accepted release, and the tables then do not say the
  -- history with the release at its end, and its shapes
  pub record IsUnconfirmed (w : Writing) (before : Holdings) (old new : Held S) : Type 0 where
    pub candidate : Candidate
    pub live : List (List ℕ)
    pub made : IsPrepared candidate before.history (record { live = live; writing = w })
    pub history : List Entry
    pub follows : FollowsHistory candidate before.history (holdings history w.shapes.items)
    pub unsaid : RunsUnsaid (writing_statements w before) history w.shapes.items old new

  -- an accepted release is not written: its statements are not run, or the tables then say
  -- something else
  abbrev pub FailsToWrite : Writing → Holdings → Held S → Held S → Type 0
  FailsToWrite w before old new =
      FailsToRun (writing_statements w before) old new ⊎ IsUnconfirmed w before old new

  -- writing an accepted release failed; if the disk kept what was written, and this says that the
  -- database failed, there is a cause
  abbrev pub HasStoreCause : Accepted → RegisterState S → RegisterState S → Type 0 → Type 0
  HasStoreCause a old new Failed = HasCleanDisk (state store new.conn) → Failed
      → FailsToWrite a.writing old.held old.conn new.conn

  -- the candidate was accepted, and writing it failed
  abbrev pub FailsToStore : Candidate → RegisterState S → RegisterState S → Type 0 → Type 0
  FailsToStore c old new Failed =
      (a : Accepted) × IsAccepted c old.held a × HasStoreCause a old new Failed

-- a call fails to read the register's tables: the connection was shut before, or the disk failed
-- during the call, or the engine refuses the query of one of the tables that are there, as it may
-- where the connection has a limit of steps
abbrev pub FailsToRead : State → State → Type 0
FailsToRead old new = (old.is_open ≡ false)
    ⊎ ((found : Found) × AreThere old.now.schema found × IsUnread found old new)

-- if the disk kept what was written, and this says that the database failed, there is a cause
abbrev pub HasReadCause : State → State → Type 0 → Type 0
HasReadCause old new Failed = HasCleanDisk new → Failed → FailsToRead old new
