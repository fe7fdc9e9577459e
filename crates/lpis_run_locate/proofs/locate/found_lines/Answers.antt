use Rattle.std.proofs.Common.{IfOk, List, Ok, subst, sym}
use Rattle.lpis_places.specs.Points.{Given}
use Rattle.lpis_run.specs.declared.answer.Answer.{Answer}
use Rattle.lpis_run_locate.specs.LocateAnswer.{IsPointsAnswer}
use Rattle.lpis_run_locate.specs.private.Found.{AreFound}
use Rattle.lpis_run_locate.proofs.LineLemmas.{first_found}
use Rattle.lpis_run_locate.proofs.locate.found_lines.Goals as goal

pub returns : goal.returns
returns c =
    let r = c.args.release.now in
    let found = first_found r c.args.points.now c.args.found.now c.locate_in.new.found c.requires.as_many c.requires.none c.in_ok-locate_in.ensures.found in
    subst (λ (gs : List Given). IfOk c.report_points.result (λ (a : Answer). IsPointsAnswer r (Ok gs) (a.text.items, a.status))) c.as_slice.ensures
    (c.report_points.ensures r (subst (λ (gs : List Given). AreFound r gs c.locate_in.new.found) (sym c.as_slice.ensures) found))
