use Rattle.std.proofs.lemmas.Result.{IfErr-weaker, IfOk-weaker}
use Rattle.lpis_run.specs.Inputs.{inputs_of}
use Rattle.lpis_run_country.proofs.Shared.{check_refused}
use Rattle.lpis_run_locate.specs.private.Searching.{setting_at}
use Rattle.lpis_run_locate.proofs.PassingLemmas.{judged, seam_refused}
use Rattle.lpis_run_locate.proofs.progress.judge_inputs.Goals as goal

pub returns-in-Ok-clause-passed : goal.returns-in-Ok-clause-passed
returns-in-Ok-clause-passed c = λ texts told table before at.
    let s = setting_at texts c.args.names.now c.args.progress.now in
    IfOk-weaker c.follow.result _ _
    (λ done follows. judged s table before c.args.name.now (inputs_of c.args.inputs) c.in-Ok.release c.follow.new.progress told c.in-Ok.ensures.release follows)
    (c.follow.ensures.follows texts table before at)

pub returns-in-Ok-clause-refused : goal.returns-in-Ok-clause-refused
returns-in-Ok-clause-refused c = λ texts told table before at.
    let s = setting_at texts c.args.names.now c.args.progress.now in
    IfErr-weaker c.follow.result _ _
    (λ stop refused. seam_refused s before c.args.name.now (inputs_of c.args.inputs) c.in-Ok.release stop told c.in-Ok.ensures.release refused)
    (c.follow.ensures.refused texts table before at)

pub returns-in-Err-clause-refused : goal.returns-in-Err-clause-refused
returns-in-Err-clause-refused c = λ texts told table before at.
    let s = setting_at texts c.args.names.now c.args.progress.now in
    check_refused s before c.args.name.now (inputs_of c.args.inputs) c.in-Err.stop c.in_region.result told c.in-Err.ensures.refused c.in_region.ensures
