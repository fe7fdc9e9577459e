use Rattle.lpis_run.specs.Inputs.{inputs_of}
use Rattle.lpis_run_country.specs.private.Progressing.{setting_at}
use Rattle.lpis_run_country.proofs.RunLemmas.{check_refused, judged}
use Rattle.lpis_run_country.proofs.judging.judge_inputs.Goals as goal

pub returns-in-Ok-clause-verdict : goal.returns-in-Ok-clause-verdict
returns-in-Ok-clause-verdict c = λ texts told before at.
    let s = setting_at texts c.args.detail c.args.names.now c.args.progress.now in
    judged c.follow.result s before c.args.name.now (inputs_of c.args.inputs) c.in-Ok.release c.follow.new.progress told c.in-Ok.ensures.release (c.follow.ensures.follows texts before at)

pub returns-in-Err-clause-verdict : goal.returns-in-Err-clause-verdict
returns-in-Err-clause-verdict c = λ texts told before at.
    let s = setting_at texts c.args.detail c.args.names.now c.args.progress.now in
    check_refused s before c.args.name.now (inputs_of c.args.inputs) c.in-Err.stop c.in_region.result told c.in-Err.ensures.refused c.in_region.ensures
