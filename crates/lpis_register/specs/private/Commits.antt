-- What making tables those of version 3 commits.
use Rattle.std.specs.Prelude.{◌≡◌, false, List, IsTrue, IfErr, OnOk, Result}
use Rattle.sqlite.specs.Held.{Held, state}
use Rattle.sqlite.specs.State.{HasCleanDisk, Survives}
use Rattle.sqlite_trees.specs.declared.store.Store.{Ghosts}
use Rattle.lpis_lineage.specs.declared.row.Entry.{Entry}
use Rattle.lpis_register_rows.specs.Shapes.{Shape}
use Rattle.lpis_register_rows.specs.declared.version.Version.{Version}
use Rattle.lpis_register_sql.specs.Hiding.{hides_table}
use Rattle.lpis_register.specs.FailingToOpen.{FailsToSettle}
use Rattle.lpis_register.specs.Faults.{IsFailure}
use Rattle.lpis_register.specs.Holdings.{holdings}
use Rattle.lpis_register.specs.Opening.{RanSettling, RanSettlingTo}
use Rattle.lpis_register.specs.Saying.{HasWhole, LeavesSaid}
use Rattle.lpis_register.specs.declared.fault.PublishFault.{PublishFault}
use Rattle.lpis_register.specs.declared.fault.PublishFault.TheVariants.{Store}
use Rattle.lpis_register.specs.private.Writes.{WritesRelease}

-- tables of a version are made those of version 3, which say this, or left as they were
pub record Settles {S : Type 0} (store : Ghosts S) (version : Version) (h : List Entry)
    (shapes : List Shape) (old new : Held S) (r : Result (Unit {0}) PublishFault) : Type 0 where
  pub writes : WritesRelease (holdings h shapes) (LeavesSaid h shapes) (state store old)
      (state store new) r
  pub whole : HasCleanDisk (state store new) → OnOk r (HasWhole (state store new).now)
  pub ran : HasCleanDisk (state store new) → OnOk r (RanSettling store version h old new)
  pub left : Survives (state store old) (state store new) (RanSettlingTo store version h old)
  pub failure : IfErr r IsFailure
  pub cause : HasCleanDisk (state store new) → IsTrue (state store old).is_open
      → hides_table old.schema ≡ false
      → IfErr r (λ fault. fault ≡ Store → FailsToSettle store version h shapes old new)
