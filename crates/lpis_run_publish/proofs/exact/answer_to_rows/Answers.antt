use Rattle.std.proofs.Common.{refl, subst}
use Rattle.lpis_run.specs.CheckAnswer.{IsUsedAnswer}
use Rattle.lpis_run.specs.Outputs.{outputs_of}
use Rattle.lpis_run.specs.Stops.{IsRefusedAs}
use Rattle.lpis_run_publish.proofs.Common.{IfOk-weaker}
use Rattle.lpis_run_publish.proofs.ExactLemmas.{answered-taken, answered-uncut}
use Rattle.lpis_run_publish.proofs.exact.answer_to_rows.Goals as goal

pub returns-in-Ok : goal.returns-in-Ok
returns-in-Ok g c =
    IfOk-weaker c.answer_by.result _ _
    (λ o filled. answered-taken c.args.register.now.held c.args.release.now c.args.rows.now c.args.named c.in-Ok.cert (outputs_of o) c.in-Ok.ensures.taken filled) c.answer_by.ensures

pub returns-in_ok-into_answer-in-Err : goal.returns-in_ok-into_answer-in-Err
returns-in_ok-into_answer-in-Err g c =
    let r = c.args.release.now in
    rw c.without_cert.ensures
    (answered-uncut c.args.register.now.held r c.args.rows.now c.args.named _
    (subst (IsRefusedAs (IsUsedAnswer r (λ _ _. ⊥) c.args.named)) c.in_ok-into_answer-in-Err.ensures c.in-Err.ensures.refused) refl)
