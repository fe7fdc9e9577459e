use Rattle.std.proofs.Common.{◌≡◌, ◌∙◌, ◌++◌, ap, rules, true, ℤ, Result, Ok, Err, OnOk, is_ok}
use Rattle.std.proofs.lemmas.Int.{to_z-of_z}
use Rattle.lpis_run.specs.Area.{area_line}
use mir.Syntax.{w128}
use mir.Val.{SFits}
use Rattle.lpis_run_check.proofs.area.add_line.Goals as goal

at-ok : {A E P : Type 0} (r : Result A E) → is_ok r ≡ true → OnOk r P → P
at-ok (Ok a) is h = h
at-ok (Err e) is h = cc is

pub returns : goal.returns
returns c =
    let polygon = c.in_ok-polygon.polygon in
    let fits : SFits w128 c.area2.result = search rules in
    let area = to_z-of_z w128 c.area2.result fits ∙ c.area2.ensures.value in
    let written = at-ok c.print_line.result c.if-is_err.ensures.negation c.print_line.ensures ∙ ap (λ (d : ℤ). c.args.lines.now.items ++ area_line d) area in
    (polygon, rw c.requires.table at c.in_ok-polygon.ensures, written)
