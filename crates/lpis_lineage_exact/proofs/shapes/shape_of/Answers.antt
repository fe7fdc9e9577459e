use Rattle.std.proofs.Common.{◌∙◌, Some, ap, rules}
use Rattle.lpis_register_rows.specs.Shapes.{Shape}
use Rattle.std.proofs.lemmas.Fn.{always_returns_same}
use Rattle.lpis_lineage_exact.proofs.ShapeLemmas.{order, shape-found, shape-missing}
use Rattle.lpis_lineage_exact.proofs.shapes.shape_of.Goals as goal

pub returns-in-Ok : goal.returns-in-Ok
returns-in-Ok c =
    let same = c.polygon.ensures ∙ ap (λ (s : Shape). s.1) c.index-shapes-index.is in
    ap Some same ∙ shape-found c.args.shapes.now c.args.id.now c.in-Ok.index c.index-shapes-index.result c.requires.ascending c.in-Ok.ensures.bound
    (c.in-Ok.ensures.position (order c.args.id.now) (always_returns_same _ _ _ (λ a r g called. (search rules, search rules))))

pub returns-in-Err : goal.returns-in-Err
returns-in-Err c = shape-missing c.args.shapes.now c.args.id.now c.in-Err.field-0 c.requires.ascending
    (c.in-Err.ensures.position (order c.args.id.now) (always_returns_same _ _ _ (λ a r g called. (search rules, search rules))))
