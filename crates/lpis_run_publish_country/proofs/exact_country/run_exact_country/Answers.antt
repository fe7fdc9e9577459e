use Rattle.std.proofs.Common.{None, refl}
use Rattle.std.proofs.lemmas.Result.{err_from_is_err_and}
use Rattle.lpis_run.specs.Folders.{top_by}
use Rattle.lpis_run.specs.Outputs.{writer}
use Rattle.lpis_run_publish_country.specs.PublishCountryRuns.{StopsAtLineage}
use Rattle.lpis_run_publish_country.specs.PublishCountryAnswer.{IsRefusedBefore, country_files}
use Rattle.lpis_run_publish_country.specs.private.Preparing.{inputs_of}
use Rattle.lpis_run_publish_country.proofs.FillingLemmas.{runs_earlier, runs_prepared, runs_refused, runs_unread}
use Rattle.lpis_run_publish_country.proofs.InputsLemmas.{earlier_untouched, filled_untouched}
use Rattle.lpis_run_publish_country.proofs.UnpreparedLemmas.{has_failed, is_refused}
use Rattle.lpis_run_publish_country.proofs.exact_country.run_exact_country.Goals as goal

pub returns-in_err-inputs-clause-runs : goal.returns-in_err-inputs-clause-runs
returns-in_err-inputs-clause-runs g c =
    let given = country_files (top_by g.R.Read.remaining c.args.top.now) None (g.G.Regions.texts c.args.regions.now) (g.L.Lineages.lineages c.args.lineages.now) in
    let p = err_from_is_err_and c.from_residual.result c.from_residual.ensures.1 in
    rw (p.1, p.2) (runs_unread given c.args.register.now.held (writer g.V.Write.contents c.args.file.now) (g.W.Write.contents c.args.out.now) _ c.in_err-inputs.ensures.failure)

pub returns-in-Err-Failed-clause-runs : goal.returns-in-Err-Failed-clause-runs
returns-in-Err-Failed-clause-runs g c =
    let given = country_files (top_by g.R.Read.remaining c.args.top.now) None (g.G.Regions.texts c.args.regions.now) (g.L.Lineages.lineages c.args.lineages.now) in
    let x = inputs_of c.in_ok-inputs.inputs in
    rw c.in-Err-Failed.failure-is
    (runs_earlier given c.args.register.now.held (writer g.V.Write.contents c.args.file.now) (g.W.Write.contents c.args.out.now) x (c.in_ok-inputs.ensures.bytes given refl refl)
    c.in-Err-Failed.failure
    (has_failed (StopsAtLineage given x) (IsRefusedBefore given x) c.in-Err-Failed.field-0 c.in-Err-Failed.failure
    c.in-Err-Failed.field-0-is (c.in-Err-Failed.ensures.unprepared given refl)))

pub returns-in-Ok-clause-runs : goal.returns-in-Ok-clause-runs
returns-in-Ok-clause-runs g c =
    let given = country_files (top_by g.R.Read.remaining c.args.top.now) None (g.G.Regions.texts c.args.regions.now) (g.L.Lineages.lineages c.args.lineages.now) in
    let x = inputs_of c.in_ok-inputs.inputs in
    runs_prepared given c.args.register.now.held (writer g.V.Write.contents c.args.file.now) (g.W.Write.contents c.args.out.now) x (c.in_ok-inputs.ensures.bytes given refl refl)
    (writer g.V.Write.contents c.fill_prepared.new.file) (g.W.Write.contents c.fill_prepared.new.out) c.fill_prepared.result
    (c.fill_prepared.ensures given x refl (c.in-Ok.ensures.prepared given refl))

pub returns-in-Err-Refused-clause-runs : goal.returns-in-Err-Refused-clause-runs
returns-in-Err-Refused-clause-runs g c =
    let given = country_files (top_by g.R.Read.remaining c.args.top.now) None (g.G.Regions.texts c.args.regions.now) (g.L.Lineages.lineages c.args.lineages.now) in
    let x = inputs_of c.in_ok-inputs.inputs in
    runs_refused given c.args.register.now.held (writer g.V.Write.contents c.args.file.now) (g.W.Write.contents c.args.out.now) x (c.in_ok-inputs.ensures.bytes given refl refl)
    (g.W.Write.contents c.write_to.new.out) c.in-Err-Refused.answer c.write_to.result
    (is_refused (StopsAtLineage given x) (IsRefusedBefore given x) c.in-Err-Refused.field-0 c.in-Err-Refused.answer
    c.in-Err-Refused.field-0-is (c.in-Err-Refused.ensures.unprepared given refl))
    (rw c.in-Err-Refused.answer-is at c.write_to.ensures.status) (rw c.in-Err-Refused.answer-is at c.write_to.ensures.text) (rw c.in-Err-Refused.answer-is at c.write_to.ensures.failure)

pub returns-in-Err-Failed-clause-untouched : goal.returns-in-Err-Failed-clause-untouched
returns-in-Err-Failed-clause-untouched g c =
    let given = country_files (top_by g.R.Read.remaining c.args.top.now) None (g.G.Regions.texts c.args.regions.now) (g.L.Lineages.lineages c.args.lineages.now) in
    let x = inputs_of c.in_ok-inputs.inputs in
    rw c.in-Err-Failed.failure-is
    (earlier_untouched c.args.top.now c.read_country.new.top given x c.in-Err-Failed.failure
    (has_failed (StopsAtLineage given x) (IsRefusedBefore given x) c.in-Err-Failed.field-0 c.in-Err-Failed.failure
    c.in-Err-Failed.field-0-is (c.in-Err-Failed.ensures.unprepared given refl)))

pub returns-in-Ok-clause-untouched : goal.returns-in-Ok-clause-untouched
returns-in-Ok-clause-untouched g c =
    let given = country_files (top_by g.R.Read.remaining c.args.top.now) None (g.G.Regions.texts c.args.regions.now) (g.L.Lineages.lineages c.args.lineages.now) in
    let x = inputs_of c.in_ok-inputs.inputs in
    filled_untouched c.args.top.now c.read_country.new.top given x c.args.register.now.held _ _ c.fill_prepared.result
    (c.fill_prepared.ensures given x refl (c.in-Ok.ensures.prepared given refl))
