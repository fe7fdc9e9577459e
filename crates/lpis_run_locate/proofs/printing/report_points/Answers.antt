use Rattle.std.proofs.Common.{ℕ, List, ap₂}
use Rattle.std.proofs.lemmas.Result.{IfOk-weaker}
use Rattle.lpis_run_locate.specs.private.Lines.{lines_of}
use Rattle.lpis_run_locate.proofs.LineLemmas.{lines_are}
use Rattle.lpis_run_locate.proofs.printing.report_points.Goals as goal

pub returns : goal.returns
returns c = λ r told.
    let points = c.args.points.now in
    let found = c.args.found.now in
    IfOk-weaker c.text_of_points.result _ _ (λ a is. (lines_of points found, lines_are r points found told.as_many told.each, ap₂ (λ (t : List ℕ) (s : ℕ). (t, s)) is.0 is.1)) c.text_of_points.ensures
