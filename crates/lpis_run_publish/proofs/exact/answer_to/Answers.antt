use Rattle.std.proofs.Common.{refl, subst}
use Rattle.lpis_run_publish.proofs.Common.{IfOk-weaker}
use Rattle.lpis_run.specs.Outputs.{outputs_of}
use Rattle.lpis_run.specs.Stops.{IsRefusedAs}
use Rattle.lpis_run_publish.specs.private.Submitting.{IsFaultAnswer, submission_of, submitted_of}
use Rattle.lpis_run_publish.proofs.ExactLemmas.{answered-said, answered-refused}
use Rattle.lpis_run_publish.proofs.exact.answer_to.Goals as goal

pub returns-in-Ok : goal.returns-in-Ok
returns-in-Ok g c =
    IfOk-weaker c.answer_to_submission.result _ _
    (λ o done. answered-said (submission_of c.args.submission) (submitted_of c.in-Ok.said) c.args.register.now.held (outputs_of o) c.in-Ok.ensures.said done) c.answer_to_submission.ensures

pub returns-in_ok-into_answer-in-Err : goal.returns-in_ok-into_answer-in-Err
returns-in_ok-into_answer-in-Err g c =
    let x = submission_of c.args.submission in
    rw c.without_cert.ensures
    (answered-refused x c.args.register.now.held _ (subst (IsRefusedAs (IsFaultAnswer x)) c.in_ok-into_answer-in-Err.ensures c.in-Err.ensures.refused) refl)
