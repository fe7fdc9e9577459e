-- What the database of a register holds after a call, what a crash on the way leaves, and why the
-- database failed.
use Rattle.std.specs.Prelude.{◌≡◌, ◌⊎◌, IfErr, IsTrue, Result}
use Rattle.sqlite.specs.Held.{state}
use Rattle.sqlite.specs.State.{HasCleanDisk, Survives}
use Rattle.sqlite.specs.Tree.{Trees}
use Rattle.sqlite_trees.specs.declared.store.Store.{Ghosts}
use Rattle.lpis_register.specs.Accepting.{IsAccepted}
use Rattle.lpis_register.specs.Failing.{FailsToStore}
use Rattle.lpis_register.specs.Holdings.{Candidate, RegisterState}
use Rattle.lpis_register.specs.Publishing.{FollowsHistory, IsLeftAlone, LeavesRelease, TablesSay}
use Rattle.lpis_register.specs.Running.{RanRelease, RanReleaseTo}
use Rattle.lpis_register.specs.declared.accepting.Accepted.{Accepted}
use Rattle.lpis_run.specs.declared.failure.Failure.{Failure}
use Rattle.lpis_run.specs.declared.failure.Failure.TheVariants.{Store, StoreMemory}

-- the database failed, or memory ran out in its transaction
abbrev pub IsStoreFailure : Failure → Type 0
IsStoreFailure failure = (failure ≡ Store) ⊎ (failure ≡ StoreMemory)

-- of a call that is asked to publish one of these releases
module _ {S : Type 0} (store : Ghosts S) (Is : Candidate → Type 0) (old : RegisterState S) where
  -- it was accepted and published: the history has it at its end, the engine ran its statements
  -- and no others, and the tables say what the register holds
  pub record IsReleaseStored (new : RegisterState S) : Type 0 where
    pub candidate : Candidate
    pub asked : Is candidate
    pub accepted : Accepted
    pub made : IsAccepted candidate old.held accepted
    pub follows : FollowsHistory candidate old.held.history new.held
    pub ran : RanRelease store accepted old new
    pub says : TablesSay store new

  -- it was published; or the register holds what it held, and the database is as it was
  abbrev pub SaysOrStays : RegisterState S → Type 0
  SaysOrStays new = IsReleaseStored new ⊎ ((new.held ≡ old.held) × IsLeftAlone store old new)

  -- it was accepted, and these trees are what its statements, and no others, lead to: they say
  -- the history with it at its end
  pub record IsReleaseLeft (trees : Trees) : Type 0 where
    pub candidate : Candidate
    pub asked : Is candidate
    pub accepted : Accepted
    pub made : IsAccepted candidate old.held accepted
    pub ran : RanReleaseTo store accepted old trees
    pub leaves : LeavesRelease candidate old.held.history trees

  -- so it is after a call that ended so, whatever tables the database has, if the disk kept what
  -- was written: as long as the database is open, and, unless it is the database that failed,
  -- open or not. A crash on the way leaves what it left before, or the release whole. With a
  -- failure of the database one of these releases was accepted, and was not stored; with `Store`,
  -- if the disk kept what was written, for one of the causes that are named
  pub record Stays {A : Type 0} (new : RegisterState S) (result : Result A Failure) : Type 0 where
    pub holds : HasCleanDisk (state store new.conn) → IsTrue (state store new.conn).is_open
        → SaysOrStays new
    pub served : IfErr result (λ failure. IsStoreFailure failure → ⊥)
        → HasCleanDisk (state store new.conn) → SaysOrStays new
    pub crash : Survives (state store old.conn) (state store new.conn) IsReleaseLeft
    pub cause : IfErr result (λ failure. IsStoreFailure failure
        → (c : Candidate) × Is c × FailsToStore store c old new (failure ≡ Store))
