use Rattle.std.proofs.Common.{inl, refl}
use Rattle.lpis_run_publish_country.specs.PublishCountryAnswer.{IsRefusedBefore}
use Rattle.lpis_run_publish_country.specs.PublishCountryRuns.{StopsAtLineage}
use Rattle.lpis_run_publish_country.specs.private.Preparing.{inputs_of}
use Rattle.lpis_run_publish_country.proofs.PreparingLemmas.{prepared, tables_unprepared}
use Rattle.lpis_run_publish_country.proofs.UnpreparedLemmas.{same_handed, stop_handed}
use Rattle.lpis_run_publish_country.proofs.inputs.prepare.Goals as goal

pub returns-in_err-start-clause-unprepared : goal.returns-in_err-start-clause-unprepared
returns-in_err-start-clause-unprepared g c = λ given same.
    let x = inputs_of c.args.inputs in
    stop_handed (StopsAtLineage given x) (IsRefusedBefore given x)
    c.from_residual.result _ c.from_residual.ensures.1 (inl refl) (c.in_err-start.ensures.refused given)

pub returns-in_err-begun-clause-unprepared : goal.returns-in_err-begun-clause-unprepared
returns-in_err-begun-clause-unprepared g c = λ given same.
    let x = inputs_of c.args.inputs in
    let said = c.in_ok-start.ensures.said in
    same_handed (StopsAtLineage given x) (IsRefusedBefore given x) c.from_residual-in_err-begun.result _ c.from_residual-in_err-begun.ensures.1
    (tables_unprepared given x (g.L.Lineages.lineages c.args.lineages.now) c.in_ok-start.start c.in_ok-start.cert.exact _ same said.0 said.1 c.in_err-begun.ensures.unprepared)

pub returns-clause-prepared : goal.returns-clause-prepared
returns-clause-prepared g c = λ given same.
    let x = inputs_of c.args.inputs in
    let said = c.in_ok-start.ensures.said in
    prepared given x (g.L.Lineages.lineages c.args.lineages.now) c.in_ok-start.start (record {
      begun = c.in_ok-begun.begun;
      cert = c.in_ok-start.cert;
      lineage = c.in_ok-begun.lineage;
    }) same said.0 said.1 c.in_ok-begun.ensures.rows c.in_ok-begun.ensures.begun
