-- What the engine runs where a release is written, and what a crash on the way leaves.
use Rattle.std.specs.Prelude.{◌≡◌, true, List, OnOk, Result}
use Rattle.sqlite.specs.Held.{Held, state}
use Rattle.sqlite.specs.State.{HasCleanDisk, Survives}
use Rattle.sqlite.specs.Tree.{Trees}
use Rattle.sqlite_trees.specs.declared.store.Store.{Ghosts}
use Rattle.lpis_register_sql.specs.Stopping.{BoundStatement, Ran, RanAlone}
use Rattle.lpis_register.specs.Failing.{writing_statements}
use Rattle.lpis_register.specs.Accepting.{IsAccepted}
use Rattle.lpis_register.specs.Holdings.{Candidate, RegisterState}
use Rattle.lpis_register.specs.declared.accepting.Accepted.{Accepted}

module _ {S : Type 0} (store : Ghosts S) where
  -- these trees are those that a transaction of these statements, and no others, has at its end
  abbrev pub RanTo : List BoundStatement → Held S → Trees → Type 0
  RanTo xs old trees = (last : Held S) × Ran store xs (record old { in_transaction = true }) last
      × (trees ≡ (state store last).now.trees)

  -- with Ok the engine ran these statements, and no others, and committed that. A crash on the way
  -- leaves what it left before, or exactly that
  pub record RunsAlone {X E : Type 0} (xs : List BoundStatement) (old new : Held S)
      (answer : Result X E) : Type 0 where
    pub ran : HasCleanDisk (state store new) → OnOk answer (RanAlone store xs old new)
    pub left : Survives (state store old) (state store new) (RanTo xs old)

  -- these statements are those of an accepted release
  abbrev pub RunsRelease : {X E : Type 0} → Accepted → RegisterState S → RegisterState S
      → Result X E → Type 0
  RunsRelease a old new =
      RunsAlone (writing_statements a.writing old.held) old.conn new.conn

  -- the engine ran them, and no others, and committed that
  abbrev pub RanRelease : Accepted → RegisterState S → RegisterState S → Type 0
  RanRelease a old new =
      RanAlone store (writing_statements a.writing old.held) old.conn new.conn

  -- these trees are those at their end
  abbrev pub RanReleaseTo : Accepted → RegisterState S → Trees → Type 0
  RanReleaseTo a old = RanTo (writing_statements a.writing old.held) old.conn

  -- so it is of a release that was accepted
  pub record RunsAccepted {X E : Type 0} (c : Candidate) (old new : RegisterState S)
      (answer : Result X E) : Type 0 where
    pub ran : HasCleanDisk (state store new.conn) → OnOk answer ((a : Accepted)
        × IsAccepted c old.held a × RanRelease a old new)
    pub left : Survives (state store old.conn) (state store new.conn) (λ trees. (a : Accepted)
        × IsAccepted c old.held a × RanReleaseTo a old trees)
