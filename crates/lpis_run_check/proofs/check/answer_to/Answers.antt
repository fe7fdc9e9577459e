use Rattle.std.proofs.Common.{ap₂, ℕ, List}
use Rattle.std.proofs.lemmas.Result.{IfOk-weaker}
use Rattle.lpis_run.specs.CheckAnswer.{IsRefusal}
use Rattle.lpis_run.specs.Inputs.{inputs_of}
use Rattle.lpis_run.proofs.Shared.{answer-of-proved, refused-as}
use Rattle.lpis_run_check.proofs.check.answer_to.Goals as goal

pub returns-in-Ok-clause-answer : goal.returns-in-Ok-clause-answer
returns-in-Ok-clause-answer c =
    IfOk-weaker c.say_done.result _ _ (λ a said. answer-of-proved (inputs_of c.args.inputs) c.in-Ok.release (a.text.items, a.status)
    c.in-Ok.ensures.release (ap₂ (λ (t : List ℕ) (s : ℕ). (t, s)) said.0 said.1)) c.say_done.ensures

pub returns-in-Err-clause-answer : goal.returns-in-Err-clause-answer
returns-in-Err-clause-answer c =
    IfOk-weaker c.into_answer.result _ _ (λ a refusal. refusal.0)
    (refused-as (IsRefusal (inputs_of c.args.inputs)) c.in-Err.stop c.into_answer.result c.in-Err.ensures.refused c.into_answer.ensures)

pub returns-in-Err-clause-proved : goal.returns-in-Err-clause-proved
returns-in-Err-clause-proved c =
    IfOk-weaker c.into_answer.result _ _ (λ a refusal is. absurd (refusal.1 is))
    (refused-as (IsRefusal (inputs_of c.args.inputs)) c.in-Err.stop c.into_answer.result c.in-Err.ensures.refused c.into_answer.ensures)
