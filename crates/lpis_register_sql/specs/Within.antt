-- What a call within an open transaction does.
use Rattle.std.specs.Prelude.{◌≡◌, IsTrue, List, MatchResult, Result}
use Rattle.sqlite.specs.Effect.{IsDatabase}
use Rattle.sqlite.specs.Held.{Held, state}
use Rattle.sqlite.specs.State.{State, HasCleanDisk, KeepsCommit, Survives}
use Rattle.sqlite.specs.declared.error.Error.{Error}
use Rattle.sqlite_trees.specs.declared.store.Store.{Ghosts}
use Rattle.lpis_register_sql.specs.Presence.{AreThere}
use Rattle.lpis_register_sql.specs.Stopping.{BoundStatement, Ran, StopsWithin}
use Rattle.lpis_register_sql.specs.declared.found.Found.{Found}

-- nothing is committed, and a crash leaves what it left before
pub record IsQuiet (old new : State) : Type 0 where
  pub kept : HasCleanDisk new → KeepsCommit old new
  pub survives : Survives old new (λ _. ⊥)

-- statements that a call makes in an open transaction: it runs them all, or it stops and says why
abbrev pub Ends : {S : Type 0} → Ghosts S → List BoundStatement → Held S → Held S
    → Result (Unit {0}) Error → Type 0
Ends store xs old new r = HasCleanDisk (state store new) → IsTrue (state store old).is_open
    → IsTrue old.in_transaction
    → MatchResult r (λ _. Ran store xs old new) (StopsWithin store xs old new)

-- a call that makes them and nothing else
pub record Makes {S : Type 0} (store : Ghosts S) (xs : List BoundStatement) (old new : Held S)
    (r : Result (Unit {0}) Error) : Type 0 where
  pub quiet : IsQuiet (state store old) (state store new)
  pub ends : Ends store xs old new r

-- no table is made or dropped
pub record KeepsTables (old new : State) : Type 0 where
  pub schema : new.now.schema ≡ old.now.schema
  pub sound : IsDatabase new.now

-- the register's tables are those that are found so
pub record HasTables (found : Found) (st : State) : Type 0 where
  pub there : AreThere st.now.schema found
  pub sound : IsDatabase st.now
