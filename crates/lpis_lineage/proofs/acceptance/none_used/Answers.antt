use Rattle.std.proofs.Common.{◌∙◌, sym, ap, List, ℕ, not, filter}
use Rattle.lpis_lineage.proofs.Common.{has_id, last_live, used_faults}
use Rattle.lpis_lineage.proofs.WalkingLemmas.{used-lacking, used-unheld}
use Rattle.lpis_lineage.proofs.acceptance.none_used.Goals as goal

pub loop-id-init : goal.loop-id-init
loop-id-init c =
    let last = last_live c.args.history.now in
    used-lacking c.args.history.now last c.args.set.now
    ∙ ap (λ (l : List (List ℕ)). used_faults c.args.history.now last (filter (λ id. not (has_id l id)) c.args.set.now)) (sym c.last_live.ensures)
    ∙ ap (λ (l : List (List ℕ)). used_faults c.args.history.now last l) (sym c.lacking-id-items.ensures.rest ∙ sym c.into_iter-id-iterator.ensures.into_iter_gives)

pub loop-id-preserved : goal.loop-id-preserved
loop-id-preserved c =
    let h = c.args.history.now in
    let last = last_live h in
    c.loop-id.invariant ∙ ap (λ (l : List (List ℕ)). used_faults h last l) c.in-Some.ensures.steps
    ∙ used-unheld h last c.in-Some.id.now c.next.new.self c.span.result c.span.ensures (sym c.is_some.ensures ∙ c.if-is_some.false)
