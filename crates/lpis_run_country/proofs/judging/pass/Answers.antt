use Rattle.std.proofs.Common.{inl, rules}
use Rattle.std.proofs.lemmas.Result.{err_from_is_err_and}
use Rattle.lpis_run_country.specs.private.Progressing.{setting_at}
use Rattle.lpis_run_country.proofs.judging.pass.Goals as goal

pub returns-clause-written : goal.returns-clause-written
returns-clause-written g c = λ before at.
    let texts = g.G.Regions.texts c.args.regions.now in
    c.write_verdict.ensures.written (setting_at texts c.args.detail c.args.names.now c.args.progress.now) before c.args.name.now c.judge_inputs-verdict.new.progress
    (c.judge_inputs-verdict.ensures.verdict texts c.in_ok-inputs.ensures.bytes before at)

pub returns-clause-failure : goal.returns-clause-failure
returns-clause-failure g c = λ before at.
    let texts = g.G.Regions.texts c.args.regions.now in
    c.write_verdict.ensures.failure (setting_at texts c.args.detail c.args.names.now c.args.progress.now) before c.args.name.now c.judge_inputs-verdict.new.progress
    (c.judge_inputs-verdict.ensures.verdict texts c.in_ok-inputs.ensures.bytes before at)

pub returns-in_err-inputs-clause-failure : goal.returns-in_err-inputs-clause-failure
returns-in_err-inputs-clause-failure g c = λ before at.
    let p = err_from_is_err_and c.from_residual.result c.from_residual.ensures.1 in
    rw (p.1, p.2) (inl (c.in_err-inputs.ensures.failure, search rules))
