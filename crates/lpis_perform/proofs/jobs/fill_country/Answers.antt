use Rattle.std.proofs.Common.{None, inl, inr, refl, subst}
use Rattle.std.proofs.lemmas.Result.{err_from_is_err_and}
use Rattle.lpis_run.specs.Folders.{top_named}
use Rattle.lpis_run.specs.Outputs.{held, writer}
use Rattle.lpis_run.specs.Streams.{Known}
use Rattle.lpis_run.specs.declared.failure.Failure.TheVariants.{Memory}
use Rattle.lpis_run.specs.declared.folder.Top.{Top}
use Rattle.lpis_run_publish_country.specs.ExactCountryAnswer.{RunsExactCountry}
use Rattle.lpis_run_publish_country.specs.PublishCountryAnswer.{country_files}
use Rattle.lpis_perform.specs.Opening.{lineage_of, texts_of}
use Rattle.lpis_perform.proofs.OpeningLemmas.{memory_stops}
use Rattle.lpis_perform.proofs.jobs.fill_country.Goals as goal

pub returns-in_err-top : goal.returns-in_err-top
returns-in_err-top g c =
    let p = err_from_is_err_and c.from_residual.result c.from_residual.ensures.1 in
    rw (p.1, p.2) (refl, inr (c.in_err-top.ensures.failure, refl))

pub returns-in_err-filled : goal.returns-in_err-filled
returns-in_err-filled g c =
    let p = err_from_is_err_and c.from_residual-in_err-filled.result c.from_residual-in_err-filled.ensures.1 in
    let at = g.M.Machine.standing c.args.machine.now in
    rw (p.1, p.2) (refl, inr (memory_stops at (top_named c.args.country.now.top) Memory refl, refl))

pub returns : goal.returns
returns g c =
    let at = g.M.Machine.standing c.args.machine.now in
    let before = held (writer g.M.Created.Write.contents c.in_ok-filled.filled) (g.W.Write.contents c.args.out.now) in
    let after = held (writer g.M.Created.Write.contents c.run_exact_country.new.file) (g.W.Write.contents c.run_exact_country.new.out) in
    let run = λ (given : Top Known).
    RunsExactCountry (country_files given None (texts_of at c.args.country.now.path.now) (lineage_of at c.args.country.now.path.now)) c.args.register.now.held before after
    c.run_exact_country.result in (
      refl,
      inl (
        c.in_ok-top.ensures.opened,
        (c.in_ok-filled.filled, c.run_exact_country.new.file, c.in_ok-filled.ensures, subst run c.in_ok-top.ensures.given c.run_exact_country.ensures.runs),
      ),
    )
