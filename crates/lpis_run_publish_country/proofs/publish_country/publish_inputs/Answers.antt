use Rattle.std.proofs.Common.{refl}
use Rattle.lpis_run_publish_country.specs.PublishCountryAnswer.{CountryRequest, IsRefusedBefore}
use Rattle.lpis_run_publish_country.specs.PublishCountryRuns.{StopsAtLineage}
use Rattle.lpis_run_publish_country.specs.private.Preparing.{inputs_of}
use Rattle.lpis_run_publish_country.proofs.RunLemmas.{runs_faulty, runs_unprepared}
use Rattle.lpis_run_publish_country.proofs.UnpreparedLemmas.{has_failed, is_refused}
use Rattle.lpis_run_publish_country.proofs.publish_country.publish_inputs.Goals as goal

pub returns-in-Ok : goal.returns-in-Ok
returns-in-Ok g c = λ given texts lineages. c.publish_prepared.ensures given (inputs_of c.args.inputs) texts (c.in-Ok.ensures.prepared given lineages)

pub returns-in-Err-Failed : goal.returns-in-Err-Failed
returns-in-Err-Failed g c = λ given texts lineages.
    let asked : CountryRequest = record { year = c.args.year; given = given; detail = c.args.detail } in
    let x = inputs_of c.args.inputs in
    rw c.in-Err-Failed.failure-is
    (runs_unprepared g.S.Store asked c.args.register.now x (g.W.Write.contents c.args.out.now) c.in-Err-Failed.failure
    (has_failed (StopsAtLineage given x) (IsRefusedBefore given x)
    c.in-Err-Failed.field-0 c.in-Err-Failed.failure c.in-Err-Failed.field-0-is (c.in-Err-Failed.ensures.unprepared given lineages)))

pub returns-in-Err-Refused : goal.returns-in-Err-Refused
returns-in-Err-Refused g c = λ given texts lineages.
    let asked : CountryRequest = record { year = c.args.year; given = given; detail = c.args.detail } in
    let x = inputs_of c.args.inputs in
    runs_faulty g.S.Store asked c.args.register.now x (g.W.Write.contents c.args.out.now) (g.W.Write.contents c.write_to.new.out) c.in-Err-Refused.answer
    c.write_to.result (is_refused (StopsAtLineage given x) (IsRefusedBefore given x)
    c.in-Err-Refused.field-0 c.in-Err-Refused.answer c.in-Err-Refused.field-0-is (c.in-Err-Refused.ensures.unprepared given lineages))
    (rw c.in-Err-Refused.answer-is at c.write_to.ensures.status) (rw c.in-Err-Refused.answer-is at c.write_to.ensures.text) (rw c.in-Err-Refused.answer-is at c.write_to.ensures.failure)
