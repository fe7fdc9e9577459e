-- Why the database fails when a release is published.
use Rattle.std.proofs.Common.{◌≡◌, ◌⊎◌, inl, inr, Bool, true, false, IsTrue, Result, Ok, Err, IfErr, refl, subst}
use Rattle.sqlite.specs.Held.{Held}
use Rattle.sqlite.specs.declared.error.Error.{Error}
use Rattle.sqlite.specs.declared.error.Error.TheVariants.{SqliteFailure}
use Rattle.sqlite.specs.declared.error.ErrorCode.TheVariants.{OutOfMemory}
use Rattle.sqlite_trees.specs.declared.store.Store as store
use Rattle.lpis_register_sql.specs.Presence.{AreThere}
use Rattle.lpis_register_sql.specs.Unread.{IsUnread}
use Rattle.lpis_register_sql.specs.declared.found.Found.{Found}
use Rattle.lpis_register.proofs.Common.{HasCleanDisk, PublishFault, State, state}
use Rattle.lpis_register.specs.Accepting.{IsAccepted}
use Rattle.lpis_register.specs.Faults.{IsStoreFault}
use Rattle.lpis_register.specs.Failing.{FailsToRead, FailsToStore, FailsToWrite, HasStoreCause}
use Rattle.lpis_register.specs.Holdings.{Candidate, Holdings, RegisterState}
use Rattle.lpis_register.specs.private.Writes.{FailsToCommit}
use Rattle.lpis_register.specs.declared.accepting.Accepted.{Accepted}
use Rattle.lpis_register.specs.declared.accepting.Writing.{Writing}
use Rattle.lpis_register.specs.declared.fault.PublishFault.TheVariants.{Memory, Store}

-- a connection was shut before, or it is open
pub or_shut : {X : Type 0} (b : Bool) → (b ≡ true → X) → (b ≡ false) ⊎ X
or_shut true f = inr (f refl)
or_shut false f = inl refl

-- where the failure of a reading is reported as the store's, memory was not what was refused
pub unread_cause : (found : Found) (old new : State) (e : Error) (fault : PublishFault) → (e ≡ SqliteFailure OutOfMemory → fault ≡ Memory) → fault ≡ Store
    → (e ≡ SqliteFailure OutOfMemory) ⊎ IsUnread found old new → IsUnread found old new
unread_cause found old new e fault memory is (inl refused) = absurd (let m = memory refused in cc)
unread_cause found old new e fault memory is (inr unread) = unread

-- and where the connection was shut before, that is the cause
pub fails_to_read : (found : Found) (old new : State) → AreThere old.now.schema found → (IsTrue old.is_open → IsUnread found old new) → FailsToRead old new
fails_to_read found old new there unread = or_shut old.is_open (λ up. (found, there, unread up))

-- the database failed to run the statements of a release
pub fails_to_commit : {S : Type 0} (g : store.Ghosts S) (w : Writing) (before : Holdings) (old new : Held S) (r : Result (Unit {0}) PublishFault) → IfErr r IsStoreFault
    → (HasCleanDisk (state g new) → IfErr r (λ fault. fault ≡ Store → FailsToWrite g w before old new)) → IfErr r (FailsToCommit g w before old new)
fails_to_commit g w before old new (Ok x) either cause = tt
fails_to_commit g w before old new (Err e) either cause = record { untouched = inl either; cause = cause }

-- a release that failed to be written has its cause in the register as it was
pub fails_as : {S : Type 0} (g : store.Ghosts S) (w : Writing) (it old : RegisterState S) (conn : Held S) (fault : PublishFault) → it ≡ old
    → FailsToCommit g w it.held it.conn conn fault → HasCleanDisk (state g conn) → fault ≡ Store → FailsToWrite g w old.held old.conn conn
fails_as g w it old conn fault same fails =
    subst (λ s. HasCleanDisk (state g conn) → fault ≡ Store → FailsToWrite g w s.held s.conn conn) same fails.cause

-- a candidate that was accepted is one that could not be stored
pub fails_to_store : {S X : Type 0} (g : store.Ghosts S) (c : Candidate) (a : Accepted) (old new : RegisterState S) (answer : Result X PublishFault) → IsAccepted c old.held a
    → IfErr answer (λ fault. HasStoreCause g a old new (fault ≡ Store)) → IfErr answer (λ fault. IsStoreFault fault → FailsToStore g c old new (fault ≡ Store))
fails_to_store g c a old new (Ok x) made fails = tt
fails_to_store g c a old new (Err e) made fails = λ is. (a, made, fails)
