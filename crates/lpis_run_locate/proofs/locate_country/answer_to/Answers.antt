use Rattle.lpis_run_locate.specs.private.LocateRuns.{locate_country_inputs_of}
use Rattle.lpis_run_locate.proofs.CountryLemmas.{unbegun_is_answer}
use Rattle.lpis_run_locate.proofs.locate_country.answer_to.Goals as goal

pub returns-in_ok-into_answer-in-Err-clause-answer : goal.returns-in_ok-into_answer-in-Err-clause-answer
returns-in_ok-into_answer-in-Err-clause-answer g c =
    let x = locate_country_inputs_of c.args.inputs in
    unbegun_is_answer (g.G.Regions.texts c.args.regions.now) x c.in-Err.stop c.in_ok-into_answer-in-Err.field-0 c.in_ok-into_answer-in-Err.ensures c.in-Err.ensures.refusal

pub search_regions-requires : goal.search_regions-requires
search_regions-requires g c = ((locate_country_inputs_of c.args.inputs).points, c.in_ok-sought.ensures)

pub returns-in-Ok-clause-answer : goal.returns-in-Ok-clause-answer
returns-in-Ok-clause-answer g c = c.search_regions.ensures.answer (locate_country_inputs_of c.args.inputs) c.in-Ok.ensures.begun c.in_ok-sought.ensures
