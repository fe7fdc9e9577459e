-- What writing a release does to tables that say a history.
use Rattle.std.specs.Prelude.{◌≡◌, ◌⊎◌, ℕ, List, IsTrue, OnErr, OnOk, Result}
use Rattle.sqlite.specs.Held.{Held, state}
use Rattle.sqlite.specs.Tree.{Trees}
use Rattle.sqlite.specs.State.{State, HasCleanDisk, Survives}
use Rattle.sqlite_trees.specs.declared.store.Store.{Ghosts}
use Rattle.lpis_lineage.specs.declared.row.Entry.{Entry}
use Rattle.lpis_lineage.specs.Lineage.{last_year}
use Rattle.lpis_register_sql.specs.Quiet.{StaysSettled}
use Rattle.lpis_register.specs.Accepting.{IsPrepared}
use Rattle.lpis_register.specs.Failing.{FailsToWrite}
use Rattle.lpis_register.specs.Faults.{IsStoreFault}
use Rattle.lpis_register.specs.Holdings.{Candidate, Holdings, holdings}
use Rattle.lpis_register.specs.Publishing.{FollowsHistory, LeavesRelease}
use Rattle.lpis_register.specs.Saying.{IsSaid, LeavesSaid}
use Rattle.lpis_register.specs.declared.accepting.Writing.{Writing}
use Rattle.lpis_register.specs.declared.fault.PublishFault.{PublishFault}
use Rattle.lpis_register.specs.declared.fault.PublishFault.TheVariants.{Memory, Store}

-- when a release is written, the history has it at its end, and its shapes are kept
abbrev pub written : Writing → List Entry → Holdings
written w history = holdings history w.shapes.items

-- a release that was accepted is to be written: it follows the history of before, and stands at the
-- end of the one of after. The last year of before is this one
pub record IsToWrite (w : Writing) (last : ℕ) (before after : List Entry) : Type 0 where
  pub candidate : Candidate
  pub live : List (List ℕ)
  pub made : IsPrepared candidate before (record { live = live; writing = w })
  pub follows : FollowsHistory candidate before (written w after)
  pub last_is : last ≡ last_year before

-- the tables say what is held after; with an error the database is as it was. A crash leaves what
-- it left before, or such tables; right after Ok what is held after
pub record WritesRelease {E : Type 0} (after : Holdings) (IsLeft : Trees → Type 0)
    (old new : State) (r : Result (Unit {0}) E) : Type 0 where
  pub ok : HasCleanDisk new → OnOk r (IsSaid new after.history after.shapes)
  pub err : HasCleanDisk new → IsTrue new.is_open → OnErr r (StaysSettled old new)
  pub crash : Survives old new IsLeft
  pub durable : HasCleanDisk new
      → OnOk r ((db : Trees) → new.may_leave db → LeavesSaid after.history after.shapes db)

-- publishing an accepted release failed: either the database did, and there is a cause, or memory
-- ran out before it was asked
pub record FailsToCommit {S : Type 0} (store : Ghosts S) (w : Writing) (before : Holdings)
    (old new : Held S) (fault : PublishFault) : Type 0 where
  pub untouched : IsStoreFault fault ⊎ ((fault ≡ Memory) × (new ≡ old))
  pub cause : HasCleanDisk (state store new) → fault ≡ Store → FailsToWrite store w before old new

-- an accepted candidate stands at the end of the history and of that of the tables, as publishing
-- it does
pub record Commits {E : Type 0} (c : Candidate) (before after : Holdings) (old new : State)
    (r : Result (Unit {0}) E) : Type 0 where
  pub follows : OnOk r (FollowsHistory c before.history after)
  pub refused : OnErr r (after.history ≡ before.history)
  pub writes : WritesRelease after (LeavesRelease c before.history) old new r
