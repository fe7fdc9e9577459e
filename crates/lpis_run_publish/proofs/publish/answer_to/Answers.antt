use Rattle.std.proofs.Common.{◌∙◌, ℕ, refl, subst, sym}
use Rattle.lpis_run_publish.proofs.Common.{IfOk-weaker}
use Rattle.lpis_run_publish.proofs.LeavingLemmas.{leaves_as, leaves_untouched}
use Rattle.lpis_run_publish.proofs.PublishLemmas.{both-ok}
use Rattle.lpis_run_publish.proofs.SubmissionLemmas.{submission-more, submission-said, submission-status}
use Rattle.lpis_run_publish.specs.PublishAnswer.{IsReleaseAnswer}
use Rattle.lpis_run_publish.specs.private.Submitting.{IsFaultAnswer, submission_of, submitted_of}
use Rattle.lpis_run.specs.CheckAnswer.{Answer, IsUsedAnswer}
use Rattle.lpis_run.specs.Stops.{IsRefusedAs}
use Rattle.lpis_register.specs.Holdings.{Holdings}
use Rattle.lpis_run_publish.specs.Submission.{Submitted}
use Rattle.lpis_run_publish.proofs.publish.answer_to.Goals as goal

-- the answer to what a submission says
abbrev next : ℕ → Holdings → Submitted → Answer → Type 0
next year before said = IsUsedAnswer said.release (IsReleaseAnswer year said.release said.rows before) said.cert

pub returns-in-Ok-clause-answer : goal.returns-in-Ok-clause-answer
returns-in-Ok-clause-answer g c =
    let x = submission_of c.args.submission in
    let said = submitted_of c.in-Ok.said in
    IfOk-weaker c.answer_to_submission.result _ _
    (λ a told. submission-said (next c.args.year c.args.register.now.held) x said (a.text.items, a.status) c.in-Ok.ensures.said told) c.answer_to_submission.ensures.answer

pub returns-in-Ok-clause-moves : goal.returns-in-Ok-clause-moves
returns-in-Ok-clause-moves g c =
    let submitted = c.in-Ok.ensures.said in
    IfOk-weaker c.answer_to_submission.result _ _
    (λ a known. (
      (λ is_done.
          let was = known.0 is_done in
          (_, record { said = submitted_of c.in-Ok.said; submitted = submitted; certificate = was.0; sound = was.1; is = refl }, was.2)),
      known.1,
    ))
    (both-ok c.answer_to_submission.result _ _ c.answer_to_submission.ensures.published c.answer_to_submission.ensures.leaves.same)

pub returns-in_ok-into_answer-in-Err-clause-answer : goal.returns-in_ok-into_answer-in-Err-clause-answer
returns-in_ok-into_answer-in-Err-clause-answer g c =
    let x = submission_of c.args.submission in
    submission-more (next c.args.year c.args.register.now.held) x _ (subst (IsRefusedAs (IsFaultAnswer x)) c.in_ok-into_answer-in-Err.ensures c.in-Err.ensures.refused)

-- a submission that is not understood changes nothing
pub returns-in_ok-into_answer-in-Err-clause-moves : goal.returns-in_ok-into_answer-in-Err-clause-moves
returns-in_ok-into_answer-in-Err-clause-moves g c =
    let x = submission_of c.args.submission in
    let refused = submission-status x _ (subst (IsRefusedAs (IsFaultAnswer x)) c.in_ok-into_answer-in-Err.ensures c.in-Err.ensures.refused) in
    ((λ is_done. absurd (let no = sym refused ∙ is_done in cc)), λ _. refl)

pub returns-in-Ok-clause-leaves : goal.returns-in-Ok-clause-leaves
returns-in-Ok-clause-leaves g c =
    leaves_as g.S.Store _ _ (λ x is. record { said = submitted_of c.in-Ok.said; submitted = c.in-Ok.ensures.said; certificate = is.0; sound = is.1; is = is.2 }) c.args.register.now
    c.answer_to_submission.new.register c.answer_to_submission.result c.answer_to_submission.ensures.leaves

pub returns-in_ok-into_answer-in-Err-clause-leaves : goal.returns-in_ok-into_answer-in-Err-clause-leaves
returns-in_ok-into_answer-in-Err-clause-leaves g c = leaves_untouched g.S.Store _ c.args.register.now _
