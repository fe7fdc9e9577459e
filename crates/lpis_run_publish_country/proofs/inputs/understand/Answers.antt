use Rattle.std.proofs.Common.{subst, sym}
use Rattle.lpis_run.specs.Stops.{IsRefusedAs}
use Rattle.lpis_run_country.proofs.Shared.{err_is}
use Rattle.lpis_run_publish_country.specs.PublishCountryAnswer.{IsRefusedBefore}
use Rattle.lpis_run_publish_country.specs.private.Preparing.{inputs_of}
use Rattle.lpis_run_publish_country.proofs.PreparingLemmas.{cert_stop, unbegun_stop}
use Rattle.lpis_run_publish_country.proofs.inputs.understand.Goals as goal

pub returns-in_err-begun-clause-refused : goal.returns-in_err-begun-clause-refused
returns-in_err-begun-clause-refused c = λ given.
    let x = inputs_of c.args.inputs in
    err_is c.from_residual.result _ _ c.from_residual.ensures.1
    (λ stop of. subst (IsRefusedAs (IsRefusedBefore given x)) (sym of) (unbegun_stop given x _ c.in_err-begun.ensures.refusal))

pub returns-in_err-cert-clause-refused : goal.returns-in_err-cert-clause-refused
returns-in_err-cert-clause-refused c = λ given.
    let x = inputs_of c.args.inputs in
    err_is c.from_residual-in_err-cert.result _ _ c.from_residual-in_err-cert.ensures.1
    (λ stop of. subst (IsRefusedAs (IsRefusedBefore given x)) (sym of) (cert_stop given x c.in_ok-begun.begun _ c.in_ok-begun.ensures.begun c.in_err-cert.ensures.refused))
