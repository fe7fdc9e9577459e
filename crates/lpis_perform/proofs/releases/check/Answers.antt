use Rattle.std.proofs.Common.{inl, inr, refl, subst}
use Rattle.std.proofs.lemmas.Result.{err_from_is_err_and}
use Rattle.lpis_run.specs.Streams.{Known}
use Rattle.lpis_run.specs.declared.folder.Folder.{Folder}
use Rattle.lpis_perform.specs.Performance.{RunsCheck}
use Rattle.lpis_perform.proofs.releases.check.Goals as goal

pub returns-in_err-folder : goal.returns-in_err-folder
returns-in_err-folder g c =
    let p = err_from_is_err_and c.from_residual.result c.from_residual.ensures.1 in
    rw (p.1, p.2) (inr (c.in_err-folder.ensures.failure, refl))

pub returns : goal.returns
returns g c =
    let run = λ (given : Folder Known). RunsCheck given (g.W.Write.contents c.args.out.now) (g.W.Write.contents c.run_check.new.out) c.run_check.result in
    inl (c.in_ok-folder.ensures.opened, subst run c.in_ok-folder.ensures.given c.run_check.ensures.runs)
