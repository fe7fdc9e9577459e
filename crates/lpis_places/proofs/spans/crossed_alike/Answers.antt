use Rattle.std.proofs.Common.{◌∙◌, sym}
use Rattle.lpis_places.proofs.SpanLemmas.{all_right_cross, no_left_crosses}
use Rattle.lpis_places.proofs.spans.crossed_alike.Goals as goal

pub returns-then-is_crossed_right : goal.returns-then-is_crossed_right
returns-then-is_crossed_right c =
    all_right_cross c.args.span.now c.args.edge (c.is_through.ensures c.if-not-is_through.false) (sym c.is_crossed_right.ensures ∙ c.if-is_crossed_right.true)

pub returns-then-not-is_crossed_left : goal.returns-then-not-is_crossed_left
returns-then-not-is_crossed_left c =
    no_left_crosses c.args.span.now c.args.edge (c.is_through.ensures c.if-not-is_through.false) (sym c.is_crossed_left.ensures ∙ c.if-not-is_crossed_left.true)
