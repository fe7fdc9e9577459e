-- What publishing a release does to what the register holds in memory, and to its database.
use Rattle.std.specs.Prelude.{◌≡◌, List, Result, IsTrue, IfOk, OnErr, OnOk}
use Rattle.sqlite.specs.Held.{state}
use Rattle.sqlite.specs.Tree.{Trees}
use Rattle.sqlite.specs.State.{HasCleanDisk, Survives}
use Rattle.sqlite_trees.specs.declared.store.Store.{Ghosts}
use Rattle.lpis_lineage_exact.specs.ExactLineage.{ShapesTurnOnce}
use Rattle.lpis_lineage_exact.specs.Shapes.{shape_named}
use Rattle.lpis_lineage.specs.declared.row.Entry.{Entry}
use Rattle.lpis_lineage.specs.Accepts.{Adds}
use Rattle.lpis_lineage.specs.Changes.{Changes, IsChange}
use Rattle.lpis_lineage.specs.Lawful.{IsLawful, RowsFit}
use Rattle.lpis_lineage.specs.Lineage.{last_live}
use Rattle.lpis_register_rows.specs.Shapes.{AreShapesOf}
use Rattle.lpis_register_sql.specs.Quiet.{StaysSettled}
use Rattle.lpis_register.specs.Accepting.{HasExactLineage}
use Rattle.lpis_register.specs.Faults.{PublishRefuses}
use Rattle.lpis_register.specs.Saying.{IsSaid, LeavesSaid}
use Rattle.lpis_register.specs.Holdings.{Candidate, Holdings, RegisterState, candidate_ids}
use Rattle.lpis_register.specs.declared.fault.PublishFault.{PublishFault}

-- the candidate stands at the end of this history, and its shapes are kept
pub record FollowsHistory (c : Candidate) (before : List Entry) (after : Holdings) : Type 0 where
  pub adds : Adds before after.history c.year (candidate_ids c) c.rows
  pub lawful : IsLawful after.history
  pub fits : RowsFit after.history
  pub keeps : AreShapesOf c.parcels after.shapes

-- a crash leaves tables that say such a history and keep its shapes
abbrev pub LeavesRelease : Candidate → List Entry → Trees → Type 0
LeavesRelease c before trees = (after : Holdings) × FollowsHistory c before after
    × LeavesSaid after.history after.shapes trees

module _ {S : Type 0} (store : Ghosts S) where
  -- the tables of a register say what it holds
  abbrev pub TablesSay : RegisterState S → Type 0
  TablesSay it = IsSaid (state store it.conn) it.held.history it.held.shapes

  -- its database is as it was, where no transaction was open, whatever it holds
  abbrev pub IsLeftAlone : RegisterState S → RegisterState S → Type 0
  IsLeftAlone old new = StaysSettled (state store old.conn) (state store new.conn)

  -- with Ok the tables say what the register holds after, whatever tables the database has, and a
  -- crash leaves that. With an error the database is as it was, unless it is shut. A crash on the
  -- way leaves what it left before, or the candidate whole
  pub record Stores (c : Candidate) (old new : RegisterState S)
      (answer : Result Changes PublishFault) : Type 0 where
    pub ok : HasCleanDisk (state store new.conn) → OnOk answer (TablesSay new)
    pub err : HasCleanDisk (state store new.conn) → IsTrue (state store new.conn).is_open
        → OnErr answer (IsLeftAlone old new)
    pub crash : Survives (state store old.conn) (state store new.conn)
        (LeavesRelease c old.held.history)
    pub durable : HasCleanDisk (state store new.conn) → OnOk answer ((db : Trees)
        → (state store new.conn).may_leave db → LeavesSaid new.held.history new.held.shapes db)

-- publishing the candidate makes what is held after of what was held before, and this is answered
pub record Publishes (c : Candidate) (before after : Holdings)
    (answer : Result Changes PublishFault) : Type 0 where
  pub tells : PublishRefuses c before answer
  pub change : IfOk answer (IsChange (last_live before.history) (candidate_ids c) c.rows)
  pub follows : OnOk answer (FollowsHistory c before.history after)
  pub exact : OnOk answer (HasExactLineage c before)
  -- which the merges of the next release rest on
  pub once : OnOk answer (ShapesTurnOnce (shape_named after.shapes))
  pub refused : OnErr answer (after ≡ before)
