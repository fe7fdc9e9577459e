use Rattle.std.proofs.Common.{◌∙◌, subst}
use Rattle.std.proofs.lemmas.Result.{err_from_is_err_and}
use Rattle.lpis_lineage.specs.Steps.{IsStep}
use Rattle.lpis_register.proofs.AcceptingLemmas.{no_store_lineage, refused_lineage}
use Rattle.lpis_register.specs.Holdings.{candidate, holdings}
use Rattle.lpis_register.proofs.accepting.step_of.Goals as goal

pub returns-in_err-step-clause-refused : goal.returns-in_err-step-clause-refused
returns-in_err-step-clause-refused c kept year blocks later =
    let p = err_from_is_err_and c.from_residual-in_err-step.result c.from_residual-in_err-step.ensures.1 in
    let same = c.as_slice.ensures.value ∙ c.in_ok-live.ensures in
    rw (p.1, p.2) (refused_lineage (candidate year c.args.parcels.now blocks c.args.rows.now) (holdings c.args.history.now kept) later c.as_slice.result.now _ same c.in_err-step.ensures.tells)

pub returns-in_err-step-clause-no_store : goal.returns-in_err-step-clause-no_store
returns-in_err-step-clause-no_store c =
    let p = err_from_is_err_and c.from_residual-in_err-step.result c.from_residual-in_err-step.ensures.1 in
    rw (p.1, p.2) (no_store_lineage _)

pub returns-clause-step : goal.returns-clause-step
returns-clause-step c =
    let step = c.in_ok-step.step in
    subst (λ ids. IsStep c.args.history.now ids c.args.rows.now step.live step.change step.fresh.items) (c.as_slice.ensures.value ∙ c.in_ok-live.ensures) c.in_ok-step.ensures.step
