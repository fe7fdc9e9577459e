use Rattle.std.proofs.Common.{◌∙◌, ap, inl, subst}
use Rattle.lpis_release.specs.Release.{Contents}
use Rattle.lpis_run.specs.CheckAnswer.{IsCheckAnswer}
use Rattle.lpis_run.specs.Stops.{IsRefusedAs}
use Rattle.lpis_run_publish.proofs.Common.{IfOk-weaker}
use Rattle.lpis_run_publish.proofs.LeavingLemmas.{leaves_as, leaves_untouched}
use Rattle.lpis_run_publish.proofs.SubmissionLemmas.{check-more, refused-is-not-done}
use Rattle.lpis_run_publish.specs.PublishAnswer.{candidate_of}
use Rattle.lpis_run_publish.specs.private.Submitting.{IsGoodAnswer}
use Rattle.lpis_run_publish.proofs.publish.answer_by.Goals as goal

pub returns-in-Ok-clause-answer : goal.returns-in-Ok-clause-answer
returns-in-Ok-clause-answer g c =
    let yes = c.in-Ok.ensures.yes in
    IfOk-weaker c.publish_checked.result _ _ (λ a told. inl (yes.2, rw yes.0 at told)) c.publish_checked.ensures.answer

pub returns-in_ok-into_answer-in-Err-clause-answer : goal.returns-in_ok-into_answer-in-Err-clause-answer
returns-in_ok-into_answer-in-Err-clause-answer g c =
    let r = c.args.release.now in
    let k = c.args.cert.now in
    check-more r k (IsGoodAnswer c.args.year r c.args.rows.now k c.args.register.now.held) _
    (subst (IsRefusedAs (IsCheckAnswer r k (λ _. ⊥))) c.in_ok-into_answer-in-Err.ensures c.in-Err.ensures.refused)

pub returns-in_ok-into_answer-in-Err-clause-published : goal.returns-in_ok-into_answer-in-Err-clause-published
returns-in_ok-into_answer-in-Err-clause-published g c is_done =
    let r = c.args.release.now in
    let k = c.args.cert.now in
    absurd (refused-is-not-done r k _ (subst (IsRefusedAs (IsCheckAnswer r k (λ _. ⊥))) c.in_ok-into_answer-in-Err.ensures c.in-Err.ensures.refused) is_done)

pub returns-in-Ok-clause-leaves : goal.returns-in-Ok-clause-leaves
returns-in-Ok-clause-leaves g c =
    let yes = c.in-Ok.ensures.yes in
    let same = ap (λ (r : Contents). candidate_of c.args.year r c.args.rows.now c.args.cert.now) yes.0 in
    leaves_as g.S.Store _ _ (λ x is. (yes.1, yes.2, is ∙ same)) c.args.register.now c.publish_checked.new.register c.publish_checked.result c.publish_checked.ensures.leaves

pub returns-in_ok-into_answer-in-Err-clause-leaves : goal.returns-in_ok-into_answer-in-Err-clause-leaves
returns-in_ok-into_answer-in-Err-clause-leaves g c = leaves_untouched g.S.Store _ c.args.register.now _
