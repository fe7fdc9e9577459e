use mir.Syntax.{w64}
use mir.Val.{SFits}
use Rattle.std.proofs.Common.{◌∙◌, ◌++◌, ◌∷◌, ℕ, List, ap, arith, rules, append-nil, to_z-of_z}
use Rattle.std.proofs.lemmas.List.{drop_all}
use Rattle.lpis_wkt_writer.specs.Text.{number_text}
use Rattle.lpis_wkt_writer.proofs.writing.put_point.Goals as goal

pub returns-clause-written : goal.returns-clause-written
returns-clause-written c =
    let x-fits : SFits w64 c.args.point.x = search rules in
    let y-fits : SFits w64 c.args.point.y = search rules in
    let y =
    (rw (to_z-of_z y-fits) at c.put_number-start.ensures.written)
    ∙ ap (λ (t : List ℕ). number_text c.args.point.y ++ t) (drop_all 51 c.args.text.now (omega arith)) ∙ append-nil (number_text c.args.point.y) in
    (rw (to_z-of_z x-fits) at c.put_number.ensures.written)
    ∙ ap (λ (t : List ℕ). number_text c.args.point.x ++ t) (c.put_byte-start.ensures.written ∙ ap (λ (t : List ℕ). 32 ∷ t) y)
