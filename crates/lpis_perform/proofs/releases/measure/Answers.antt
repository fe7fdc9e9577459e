use Rattle.std.proofs.Common.{inl, inr, refl, subst}
use Rattle.std.proofs.lemmas.Result.{err_from_is_err_and}
use Rattle.lpis_run.specs.Streams.{Known}
use Rattle.lpis_perform.specs.Performance.{RunsArea}
use Rattle.lpis_perform.proofs.releases.measure.Goals as goal

pub returns-in_err-table : goal.returns-in_err-table
returns-in_err-table g c =
    let p = err_from_is_err_and c.from_residual.result c.from_residual.ensures.1 in
    rw (p.1, p.2) (inr (inl c.in_err-table.ensures.failure, refl))

pub returns : goal.returns
returns g c =
    let run = λ (given : Known). RunsArea given (g.W.Write.contents c.args.out.now) (g.W.Write.contents c.run_area.new.out) c.run_area.result in
    inl ((c.in_ok-table.ensures.opened, tt), subst run c.in_ok-table.ensures.given c.run_area.ensures)
