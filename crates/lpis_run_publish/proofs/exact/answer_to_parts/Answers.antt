use Rattle.lpis_run_publish.proofs.Common.{IfOk-weaker}
use Rattle.lpis_run.specs.Outputs.{outputs_of}
use Rattle.lpis_run_publish.proofs.ExactLemmas.{outcome-filled, outcome-unfilled}
use Rattle.lpis_run_publish.proofs.exact.answer_to_parts.Goals as goal

pub returns-in-Ok : goal.returns-in-Ok
returns-in-Ok c = λ before parcels rows gs asks.
    IfOk-weaker c.write_blocks.result _ _ (λ o e. outcome-filled before parcels rows c.args.cert c.in-Ok.made gs c.args.parts.now (outputs_of o) asks c.in-Ok.ensures.made e)
    c.write_blocks.ensures

pub returns-in-Err-NoFlats : goal.returns-in-Err-NoFlats
returns-in-Err-NoFlats c = λ before parcels rows gs asks.
    let one = rw c.in-Err-NoFlats.field-0-is at c.in-Err-NoFlats.ensures.fault in
    IfOk-weaker c.refuse_part.result _ _ (λ o e. outcome-unfilled before parcels rows c.args.cert gs c.args.parts.now _ (outputs_of o) asks one e) c.refuse_part.ensures
