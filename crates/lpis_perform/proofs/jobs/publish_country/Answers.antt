use Rattle.std.proofs.Common.{Option, inl, inr, refl, subst}
use Rattle.std.proofs.lemmas.Result.{err_from_is_err_and}
use Rattle.std.specs.Option.{option_map}
use Rattle.lpis_run.specs.Folders.{cert_named, top_by, top_named}
use Rattle.lpis_run.specs.Streams.{Known}
use Rattle.lpis_run.specs.declared.folder.Top.{Top}
use Rattle.lpis_run_publish_country.specs.PublishCountryAnswer.{country_request}
use Rattle.lpis_run_publish_country.specs.PublishCountryRuns.{RunsPublishCountry}
use Rattle.lpis_perform.specs.Opening.{bytes_of, lineage_of, texts_of}
use Rattle.lpis_perform.proofs.OpeningLemmas.{open_both, stops_behind, stops_first}
use Rattle.lpis_perform.proofs.jobs.publish_country.Goals as goal

pub returns-in_err-top : goal.returns-in_err-top
returns-in_err-top g c =
    let p = err_from_is_err_and c.from_residual.result c.from_residual.ensures.1 in
    let at = g.M.Machine.standing c.args.machine.now in
    rw (p.1, p.2) (inr (stops_first at (top_named c.args.country.now.top) (cert_named c.args.exact.now) _ c.in_err-top.ensures.failure, refl))

pub returns-in_err-exact : goal.returns-in_err-exact
returns-in_err-exact g c =
    let p = err_from_is_err_and c.from_residual-in_err-exact.result c.from_residual-in_err-exact.ensures.1 in
    let at = g.M.Machine.standing c.args.machine.now in
    rw (p.1, p.2) (inr (stops_behind at (top_named c.args.country.now.top) (cert_named c.args.exact.now) _ c.in_ok-top.ensures.opened c.in_err-exact.ensures.failure, refl))

pub returns : goal.returns
returns g c =
    let at = g.M.Machine.standing c.args.machine.now in
    let country = c.args.country.now in
    let run = λ (top : Top Known) (exact : Option Known).
    RunsPublishCountry g.S.Store (country_request c.args.year c.args.detail top exact (texts_of at country.path.now) (lineage_of at country.path.now)) c.args.register.now
    c.run_publish_country.new.register (g.W.Write.contents c.args.out.now) (g.W.Write.contents c.run_publish_country.new.out) c.run_publish_country.result in
    let of_top = subst (λ (top : Top Known). run top (option_map g.M.File.Read.remaining c.in_ok-exact.exact)) c.in_ok-top.ensures.given c.run_publish_country.ensures.runs in
    let of_both = subst (run (top_by (bytes_of at) country.top)) c.in_ok-exact.ensures.given of_top in
    inl (open_both at (top_named country.top) (cert_named c.args.exact.now) c.in_ok-top.ensures.opened c.in_ok-exact.ensures.opened, of_both)
