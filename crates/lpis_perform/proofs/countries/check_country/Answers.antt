use Rattle.std.proofs.Common.{inl, inr, refl, subst}
use Rattle.std.proofs.lemmas.Result.{err_from_is_err_and}
use Rattle.lpis_run.specs.Streams.{Known}
use Rattle.lpis_run.specs.declared.folder.Top.{Top}
use Rattle.lpis_run_country.specs.CountryRun.{RunsCountry}
use Rattle.lpis_perform.specs.Opening.{texts_of}
use Rattle.lpis_perform.proofs.countries.check_country.Goals as goal

pub returns-in_err-top : goal.returns-in_err-top
returns-in_err-top g c =
    let p = err_from_is_err_and c.from_residual.result c.from_residual.ensures.1 in
    rw (p.1, p.2) (inr (c.in_err-top.ensures.failure, refl))

pub returns : goal.returns
returns g c =
    let at = g.M.Machine.standing c.args.machine.now in
    let run = λ (given : Top Known).
    RunsCountry (texts_of at c.args.country.now.path.now) c.args.detail given (g.W.Write.contents c.args.out.now) (g.W.Write.contents c.run_country.new.out) c.run_country.result in
    inl (c.in_ok-top.ensures.opened, subst run c.in_ok-top.ensures.given c.run_country.ensures.runs)
