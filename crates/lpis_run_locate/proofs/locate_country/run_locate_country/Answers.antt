use Rattle.std.proofs.lemmas.Result.{err_from_is_err_and}
use Rattle.lpis_run.specs.Folders.{top_by}
use Rattle.lpis_run_locate.specs.LocateAnswer.{points_by}
use Rattle.lpis_run_locate.specs.private.LocateRuns.{locate_country_inputs_of}
use Rattle.lpis_run_locate.proofs.CountryLemmas.{answered_run, unanswered_run, unanswered_untouched}
use Rattle.lpis_run_locate.proofs.locate_country.run_locate_country.Goals as goal

pub returns-in_err-answer-clause-runs : goal.returns-in_err-answer-clause-runs
returns-in_err-answer-clause-runs g c =
    let x = locate_country_inputs_of c.in_ok-inputs.inputs in
    let texts = g.G.Regions.texts c.args.regions.now in
    let given = points_by (top_by g.R.Read.remaining) g.R.Read.remaining c.args.asked.now in
    let p = err_from_is_err_and c.from_residual-in_err-answer.result c.from_residual-in_err-answer.ensures.1 in
    rw (p.1, p.2) (unanswered_run texts given x (g.W.Write.contents c.args.out.now) _ c.in_ok-inputs.ensures.bytes c.in_err-answer.ensures.failure)

pub returns-clause-runs : goal.returns-clause-runs
returns-clause-runs g c =
    let x = locate_country_inputs_of c.in_ok-inputs.inputs in
    let texts = g.G.Regions.texts c.args.regions.now in
    let given = points_by (top_by g.R.Read.remaining) g.R.Read.remaining c.args.asked.now in
    answered_run texts given x c.in_ok-answer.answer.text.items c.in_ok-answer.answer.status (g.W.Write.contents c.args.out.now) (g.W.Write.contents c.write_to.new.out) c.write_to.result
    c.in_ok-inputs.ensures.bytes c.in_ok-answer.ensures.answer c.write_to.ensures.status c.write_to.ensures.text c.write_to.ensures.failure

pub returns-in_err-answer-clause-untouched : goal.returns-in_err-answer-clause-untouched
returns-in_err-answer-clause-untouched g c =
    let x = locate_country_inputs_of c.in_ok-inputs.inputs in
    let texts = g.G.Regions.texts c.args.regions.now in
    let p = err_from_is_err_and c.from_residual-in_err-answer.result c.from_residual-in_err-answer.ensures.1 in
    rw (p.1, p.2) (unanswered_untouched c.args.asked.now c.read_inputs.new.asked texts x _ c.in_err-answer.ensures.failure)
