use Rattle.std.proofs.Common.{ap₂, refl, ℕ, List}
use Rattle.std.proofs.lemmas.Result.{err_from_is_err_and}
use Rattle.lpis_run.proofs.Shared.{runs_stopped, runs_written}
use Rattle.lpis_run_publish_country.proofs.publish_country.refuse_early.Goals as goal

pub returns-in_err-answer : goal.returns-in_err-answer
returns-in_err-answer g c =
    let p = err_from_is_err_and c.from_residual.result c.from_residual.ensures.1 in
    rw (p.1, p.2) (runs_stopped _ _ (g.W.Write.contents c.args.out.now) _ refl)

pub returns : goal.returns
returns g c =
    let a = c.in_ok-answer.answer in
    runs_written _ _ a.text.items a.status _ _ c.write_to.result (ap₂ (λ (t : List ℕ) (n : ℕ). (t, n)) c.in_ok-answer.ensures.0 c.in_ok-answer.ensures.1)
    c.write_to.ensures.status c.write_to.ensures.text c.write_to.ensures.failure
