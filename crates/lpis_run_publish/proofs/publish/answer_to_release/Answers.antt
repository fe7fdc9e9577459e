use Rattle.std.proofs.Common.{subst}
use Rattle.lpis_run.specs.CheckAnswer.{IsUsedAnswer}
use Rattle.lpis_run.specs.Stops.{IsRefusedAs}
use Rattle.lpis_run.proofs.Shared.{answer-of-taken, used-more}
use Rattle.lpis_run_publish.proofs.Common.{IfOk-weaker}
use Rattle.lpis_run_publish.proofs.LeavingLemmas.{leaves_as, leaves_untouched}
use Rattle.lpis_run_publish.proofs.SubmissionLemmas.{unused-is-not-done}
use Rattle.lpis_run_publish.specs.PublishAnswer.{IsReleaseAnswer}
use Rattle.lpis_run_publish.proofs.publish.answer_to_release.Goals as goal

pub returns-in-Ok-clause-answer : goal.returns-in-Ok-clause-answer
returns-in-Ok-clause-answer g c =
    let r = c.args.release.now in
    IfOk-weaker c.answer_by.result _ _
    (λ a told. answer-of-taken r (IsReleaseAnswer c.args.year r c.args.rows.now c.args.register.now.held) c.args.named c.in-Ok.cert (a.text.items, a.status) c.in-Ok.ensures.taken told)
    c.answer_by.ensures.answer

pub returns-in-Ok-clause-published : goal.returns-in-Ok-clause-published
returns-in-Ok-clause-published g c =
    IfOk-weaker c.answer_by.result _ _
    (λ a was is_done.
    let all = was is_done in
    (c.in-Ok.cert, record { sound = all.0; taken = c.in-Ok.ensures.taken; good = all.1 }, all.2))
    c.answer_by.ensures.published

pub returns-in-Ok-clause-leaves : goal.returns-in-Ok-clause-leaves
returns-in-Ok-clause-leaves g c =
    leaves_as g.S.Store _ _ (λ x is. (c.in-Ok.cert, record { sound = is.0; taken = c.in-Ok.ensures.taken; good = is.1 }, is.2)) c.args.register.now
    c.answer_by.new.register c.answer_by.result c.answer_by.ensures.leaves

pub returns-in_ok-into_answer-in-Err-clause-answer : goal.returns-in_ok-into_answer-in-Err-clause-answer
returns-in_ok-into_answer-in-Err-clause-answer g c =
    let r = c.args.release.now in
    used-more r (λ _ _. ⊥) (IsReleaseAnswer c.args.year r c.args.rows.now c.args.register.now.held) c.args.named _ (λ k no. absurd no)
    (subst (IsRefusedAs (IsUsedAnswer r (λ _ _. ⊥) c.args.named)) c.in_ok-into_answer-in-Err.ensures c.in-Err.ensures.refused)

pub returns-in_ok-into_answer-in-Err-clause-published : goal.returns-in_ok-into_answer-in-Err-clause-published
returns-in_ok-into_answer-in-Err-clause-published g c is_done =
    let r = c.args.release.now in
    absurd (unused-is-not-done r c.args.named _
    (subst (IsRefusedAs (IsUsedAnswer r (λ _ _. ⊥) c.args.named)) c.in_ok-into_answer-in-Err.ensures c.in-Err.ensures.refused) is_done)

pub returns-in_ok-into_answer-in-Err-clause-leaves : goal.returns-in_ok-into_answer-in-Err-clause-leaves
returns-in_ok-into_answer-in-Err-clause-leaves g c = leaves_untouched g.S.Store _ c.args.register.now _
