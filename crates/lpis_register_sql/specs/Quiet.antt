-- What reading leaves.
use Rattle.std.specs.Prelude.{◌≡◌, false, Result, IsTrue, OnErr, OnOk}
use Rattle.sqlite.specs.State.{State, HasCleanDisk, Survives}

-- no transaction is open, and what was committed is shown
pub record IsSettled (st : State) : Type 0 where
  pub is_open : IsTrue st.is_open
  pub autocommit : st.in_transaction ≡ false
  pub settled : st.now ≡ st.committed

-- a database that is so before is so after, and is as it was
abbrev pub StaysSettled : State → State → Type 0
StaysSettled old new = IsSettled old → IsSettled new × (new.now ≡ old.now)

-- a call that reads: whatever the database holds stays, also where it fails, unless the database is
-- shut; and a crash leaves nothing new
pub record LeavesAll {X E : Type 0} (old new : State) (r : Result X E) : Type 0 where
  pub kept : HasCleanDisk new → OnOk r (StaysSettled old new)
  pub same : HasCleanDisk new → IsTrue new.is_open → OnErr r (StaysSettled old new)
  pub survives : Survives old new (λ _. ⊥)
