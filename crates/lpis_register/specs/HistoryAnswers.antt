-- What a register's history answers.
use Rattle.std.specs.Prelude.{◌≡◌, ◌↔◌, true, false, ℕ, List, Result, IsTrue, IfErr, IfOk}
use Rattle.sqlite.specs.State.{HasCleanDisk, State, Survives}
use Rattle.lpis_tables.specs.Ids.{has_id}
use Rattle.lpis_lineage.specs.declared.row.Entry.{Entry}
use Rattle.lpis_lineage.specs.Descendants.{IsDescendant}
use Rattle.lpis_lineage.specs.Lineage.{holds}
use Rattle.lpis_lineage.specs.Order.{IsAscending}
use Rattle.lpis_register_sql.specs.Quiet.{StaysSettled}
use Rattle.lpis_register.specs.Faults.{IsOpeningFault}
use Rattle.lpis_register.specs.Saying.{SaysHistory, SaysNoHistory}
use Rattle.lpis_register.specs.declared.fault.PublishFault.{PublishFault}
use Rattle.lpis_register.specs.declared.fault.PublishFault.TheVariants.{Unlawful}

-- reading the history of the tables that are there, whatever these are: it is one that they say,
-- and where they say none that is refused. Nothing is changed
pub record ReadsHistory (old new : State) (r : Result (List Entry) PublishFault) : Type 0 where
  pub said : HasCleanDisk new → IfOk r (SaysHistory old.now)
  pub refused : HasCleanDisk new → IfErr r (λ e. e ≡ Unlawful → SaysNoHistory old.now)
  -- whatever the database holds stays, unless it is shut
  pub same : HasCleanDisk new → IsTrue new.is_open → StaysSettled old new
  pub crash : Survives old new (λ _. ⊥)
  pub kinds : IfErr r IsOpeningFault

-- the live descendants of an identifier that some release holds, ascending, each once
pub record IsTrace (h : List Entry) (id : List ℕ) (found : List (List ℕ)) : Type 0 where
  pub known : (i : ℕ) × (holds h i id ≡ true)
  pub members : (q : List ℕ) → (has_id found q ≡ true) ↔ IsDescendant h id q
  pub ascend : IsAscending found

-- no release holds the identifier
abbrev pub IsUnknown : List Entry → List ℕ → Type 0
IsUnknown h id = (i : ℕ) → holds h i id ≡ false
