-- Why the files before the regions are not prepared, as it is handed on.
use Rattle.std.proofs.Common.{◌≡◌, sym, subst, IfErr, IsErrAnd, Result, Ok, Err}
use Rattle.lpis_run.specs.CheckAnswer.{Answer}
use Rattle.lpis_run.specs.Stops.{IsRefusedAs}
use Rattle.lpis_run.specs.declared.answer.Answer.{Answer as Printed}
use Rattle.lpis_run.specs.declared.failure.Failure.TheVariants.{Memory}
use Rattle.lpis_run.specs.declared.stop.Stop.{Stop}
use Rattle.lpis_run.specs.declared.stop.Stop.TheVariants as stop
use Rattle.lpis_run.specs.declared.failure.Failure.{Failure}
use Rattle.lpis_run_publish_country.specs.declared.unprepared.Unprepared.{Unprepared}
use Rattle.lpis_run_publish_country.specs.declared.unprepared.Unprepared.TheVariants.{Failed, Refused}
use Rattle.lpis_run_publish_country.specs.private.Unprepared.{IsOfStop, IsUnprepared}

module _ {A : Type 0} (Fails : Failure → Type 0) (Is : Answer → Type 0) where
  -- the same
  pub same_handed : (r : Result A Unprepared) (e : Unprepared) → IsErrAnd r (λ x. x ≡ e) → IsUnprepared Fails Is e → IfErr r (IsUnprepared Fails Is)
  same_handed (Ok x) e h why = tt
  same_handed (Err x) e h why = subst (IsUnprepared Fails Is) (sym h) why

  -- the run failed
  pub failure_handed : (r : Result A Unprepared) (f : Failure) → IsErrAnd r (λ x. x ≡ Failed f) → Fails f → IfErr r (IsUnprepared Fails Is)
  failure_handed r f h why = same_handed r (Failed f) h why

  -- memory ran out
  pub memory_handed : (r : Result A Unprepared) → IsErrAnd r (λ x. x ≡ Failed Memory) → Fails Memory → IfErr r (IsUnprepared Fails Is)
  memory_handed r h why = same_handed r (Failed Memory) h why

  -- a step stopped
  pub stop_handed : (r : Result A Unprepared) (s : Stop) → IsErrAnd r (IsOfStop s) → Fails Memory → IsRefusedAs Is s → IfErr r (IsUnprepared Fails Is)
  stop_handed (Ok x) s h fails may = tt
  stop_handed (Err x) stop.Memory h fails may = subst (IsUnprepared Fails Is) (sym h) fails
  stop_handed (Err x) (stop.Refused a) h fails may = subst (IsUnprepared Fails Is) (sym h) may

-- ---- what it comes to
module _ (Fails : Failure → Type 0) (Is : Answer → Type 0) where
  -- a failure
  pub has_failed : (e : Unprepared) (f : Failure) → e ≡ Failed f → IsUnprepared Fails Is e → Fails f
  has_failed e f is why = subst (IsUnprepared Fails Is) is why

  -- an answer
  pub is_refused : (e : Unprepared) (a : Printed) → e ≡ Refused a → IsUnprepared Fails Is e → Is (a.text.items, a.status)
  is_refused e a is why = subst (IsUnprepared Fails Is) is why
