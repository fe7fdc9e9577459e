use Rattle.std.proofs.Common.{◌<◌, ◌∙◌, ap, arith, refl}
use Rattle.std.proofs.lemmas.Result.{err_from_is_err_and}
use Rattle.std.specs.Option.{option_map}
use Rattle.lpis_lineage.specs.Lineage.{last_year}
use Rattle.lpis_run.specs.Folders.{top_by}
use Rattle.lpis_run_publish_country.specs.PublishCountryAnswer.{CountryRequest, country_request}
use Rattle.lpis_run_publish_country.specs.private.Preparing.{inputs_of}
use Rattle.lpis_run_publish_country.specs.PublishCountryRuns.{inputs_named}
use Rattle.lpis_run_publish_country.proofs.InputsLemmas.{prepared_untouched, untouched_whole}
use Rattle.lpis_run_publish_country.proofs.RunLemmas.{runs_early, runs_later, runs_unread}
use Rattle.lpis_run_publish_country.proofs.publish_country.run_publish_country.Goals as goal

pub returns-then-year-last-clause-runs : goal.returns-then-year-last-clause-runs
returns-then-year-last-clause-runs g c =
    runs_early g.S.Store _ c.args.register.now (g.W.Write.contents c.args.out.now) (g.W.Write.contents c.refuse_early.new.out) c.last_year-last.result
    (c.last_year-last.ensures ∙ ap last_year c.current.ensures) c.if-year-last.true c.refuse_early.result c.refuse_early.ensures

pub returns-in_err-inputs-clause-runs : goal.returns-in_err-inputs-clause-runs
returns-in_err-inputs-clause-runs g c =
    let asked : CountryRequest = country_request c.args.year c.args.detail (top_by g.R.Read.remaining c.args.top.now) (option_map g.R.Read.remaining c.args.exact.now)
    (g.G.Regions.texts c.args.regions.now) (g.L.Lineages.lineages c.args.lineages.now) in
    let is = c.last_year-last.ensures ∙ ap last_year c.current.ensures in
    let later : last_year c.args.register.now.held.history < c.args.year = omega (arith, is, c.if-year-last.false) in
    let p = err_from_is_err_and c.from_residual.result c.from_residual.ensures.1 in
    rw (p.1, p.2) (runs_unread g.S.Store asked c.args.register.now (g.W.Write.contents c.args.out.now) _ later (c.in_err-inputs.ensures.failure asked.given refl refl))

pub returns-clause-runs : goal.returns-clause-runs
returns-clause-runs g c =
    let is = c.last_year-last.ensures ∙ ap last_year c.current.ensures in
    let later : last_year c.args.register.now.held.history < c.args.year = omega (arith, is, c.if-year-last.false) in
    runs_later g.S.Store _ c.args.register.now c.publish_inputs.new.register (g.W.Write.contents c.args.out.now) (g.W.Write.contents c.publish_inputs.new.out)
    (inputs_of c.in_ok-inputs.inputs) c.publish_inputs.result later (c.in_ok-inputs.ensures.bytes _ refl refl) (c.publish_inputs.ensures _ refl refl)

pub returns-then-year-last-clause-untouched : goal.returns-then-year-last-clause-untouched
returns-then-year-last-clause-untouched g c = untouched_whole (inputs_named c.args.top.now c.args.exact.now) c.refuse_early.result

pub returns-clause-untouched : goal.returns-clause-untouched
returns-clause-untouched g c =
    let asked : CountryRequest = country_request c.args.year c.args.detail (top_by g.R.Read.remaining c.args.top.now) (option_map g.R.Read.remaining c.args.exact.now)
    (g.G.Regions.texts c.args.regions.now) (g.L.Lineages.lineages c.args.lineages.now) in
    prepared_untouched g.S.Store asked (inputs_of c.in_ok-inputs.inputs) c.args.top.now c.read_inputs.new.top c.args.exact.now c.read_inputs.new.exact
    c.args.register.now c.publish_inputs.new.register (g.W.Write.contents c.args.out.now) (g.W.Write.contents c.publish_inputs.new.out) c.publish_inputs.result
    c.read_inputs.ensures.named (c.publish_inputs.ensures asked.given refl refl)
