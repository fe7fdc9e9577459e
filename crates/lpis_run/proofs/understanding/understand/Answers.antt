use Rattle.std.proofs.lemmas.Result.{err_from_is_err_and}
use Rattle.lpis_run.specs.Inputs.{inputs_of}
use Rattle.lpis_run.proofs.CheckLemmas.{stop-of-text}
use Rattle.lpis_run.proofs.understanding.understand.Goals as goal

pub returns-in_err-cert-clause-refused : goal.returns-in_err-cert-clause-refused
returns-in_err-cert-clause-refused c =
    let p = err_from_is_err_and c.from_residual-in_err-cert.result c.from_residual-in_err-cert.ensures.1 in
    rw (p.1, p.2) (stop-of-text (inputs_of c.args.inputs) c.in_ok-release.release _ c.in_ok-release.ensures.said (c.in_err-cert.ensures.refused _ c.cert_if_any-read.ensures))
