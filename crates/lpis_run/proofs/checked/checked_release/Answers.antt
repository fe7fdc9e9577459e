use Rattle.std.proofs.lemmas.Result.{IfErr-weaker, IfOk-weaker, err_from_is_err_and}
use Rattle.lpis_run.specs.Inputs.{inputs_of}
use Rattle.lpis_run.proofs.CheckLemmas.{proved-said, refusal-of-cert, refusal-of-texts}
use Rattle.lpis_run.proofs.checked.checked_release.Goals as goal

pub returns-in_err-read-clause-refused : goal.returns-in_err-read-clause-refused
returns-in_err-read-clause-refused c =
    let p = err_from_is_err_and c.from_residual.result c.from_residual.ensures.1 in
    rw (p.1, p.2) (refusal-of-texts (inputs_of c.args.inputs) _ c.in_err-read.ensures.refused)

pub returns-clause-release : goal.returns-clause-release
returns-clause-release c =
    let read = c.in_ok-read.read in
    IfOk-weaker c.proved_release.result _ _ (λ r. proved-said (inputs_of c.args.inputs) read.release read.cert r c.in_ok-read.ensures.said) c.proved_release.ensures.release

pub returns-clause-refused : goal.returns-clause-refused
returns-clause-refused c =
    let read = c.in_ok-read.read in
    IfErr-weaker c.proved_release.result _ _ (λ stop. refusal-of-cert (inputs_of c.args.inputs) read.release read.cert stop c.in_ok-read.ensures.said) c.proved_release.ensures.refused
