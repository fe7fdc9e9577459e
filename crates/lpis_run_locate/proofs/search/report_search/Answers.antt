use Rattle.std.proofs.Common.{◌∙◌, ap, subst, sym, IfOk, List, Ok, Result}
use Rattle.std.proofs.lemmas.Result.{IfOk-weaker}
use Rattle.lpis_run.specs.declared.answer.Answer.{Answer}
use Rattle.lpis_run_locate.specs.LocateAnswer.{IsPointsAnswer}
use Rattle.lpis_run_locate.specs.private.Found.{AreFound}
use Rattle.lpis_places.specs.Points.{Given}
use Rattle.lpis_places.specs.declared.fault.PointsFault.{PointsFault}
use Rattle.lpis_run_locate.specs.private.Found.{IsSearched}
use Rattle.lpis_run_locate.proofs.FoundLemmas.{found_in_union, refused_table}
use Rattle.lpis_run_locate.proofs.search.report_search.Goals as goal

pub returns-in-Points : goal.returns-in-Points
returns-in-Points c = λ table all union searched unite.
    let mine = subst (IsSearched table all) c.in-Points.is searched in
    let is = mine.0 ∙ ap Ok (sym c.as_slice.ensures) in
    let found = found_in_union all union c.in-Points.search.points c.in-Points.search.found.items unite mine.1 in
    subst (λ (r : Result (List Given) PointsFault). IfOk c.report_points.result (λ (a : Answer). IsPointsAnswer union r (a.text.items, a.status))) (sym is)
    (c.report_points.ensures union (subst (λ (gs : List Given). AreFound union gs c.deref.result.now) (sym c.as_slice.ensures)
    (subst (AreFound union c.in-Points.search.points) (sym c.deref.ensures.value) found)))

pub returns-in-Nothing : goal.returns-in-Nothing
returns-in-Nothing c = λ table all union searched unite.
    let mine = subst (IsSearched table all) c.in-Nothing.is searched in
    IfOk-weaker c.refuse_points.result _ _ (λ a is. refused_table union table c.in-Nothing.fault a.text.items a.status mine is.0 is.1) c.refuse_points.ensures
