-- The answer to a register that is not opened.
use Rattle.std.specs.Prelude.{◌≡◌}
use Rattle.lpis_run.specs.CheckAnswer.{Answer}
use Rattle.lpis_run.specs.Status.{unreadable}
use Rattle.lpis_run.specs.declared.failure.Failure.{Failure}
use Rattle.lpis_run.specs.declared.failure.Failure.TheVariants as failure
use Rattle.lpis_run_publish.specs.LineageLines.{publish_refusal_text}
use Rattle.lpis_register.specs.Faults.{IsSetAside}
use Rattle.lpis_register.specs.declared.fault.PublishFault.{PublishFault}
use Rattle.lpis_register.specs.declared.fault.PublishFault.TheVariants.{Store, StoreMemory}

-- a run that refuses a register: the line of the refusal, with the status of an input that cannot
-- be read; out of memory and a failed database are no refusals
pub record RefusesRegister (fault : PublishFault) (a : Answer) : Type 0 where
  pub is_refusal : IsSetAside fault → ⊥
  pub answer : a ≡ (publish_refusal_text fault, unreadable)

-- the database failed, or memory ran out
abbrev pub StopsUnopened : PublishFault → Failure → Type 0
StopsUnopened Store why = why ≡ failure.Store
StopsUnopened StoreMemory why = why ≡ failure.StoreMemory
StopsUnopened _ why = why ≡ failure.Memory
