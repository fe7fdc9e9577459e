use Rattle.std.proofs.Common.{◌∙◌, sym}
use Rattle.lpis_places.proofs.SpanLemmas.{above_all, above_none, right_of_none}
use Rattle.lpis_places.proofs.spans.is_beyond.Goals as goal

pub returns-then-is_above_all : goal.returns-then-is_above_all
returns-then-is_above_all c = λ e.
    above_all c.args.span.now c.args.edge (sym c.is_above_all.ensures ∙ c.if-is_above_all.true) (sym c.is_above_all-then-is_above_all.ensures ∙ e)

pub returns-then-is_above_none-2 : goal.returns-then-is_above_none-2
returns-then-is_above_none-2 c = λ e.
    above_none c.args.span.now c.args.edge (sym c.is_above_none.ensures ∙ c.if-is_above_none.true) (sym c.is_above_none-then-is_above_none.ensures ∙ c.if-is_above_none-2.true)

pub returns-then-is_right_of_none : goal.returns-then-is_right_of_none
returns-then-is_right_of_none c = λ e.
    right_of_none c.args.span.now c.args.edge (sym c.is_right_of_none.ensures ∙ c.if-is_right_of_none.true) (sym c.is_right_of_none-then-is_right_of_none.ensures ∙ e)
