use Rattle.std.proofs.Common.{◌≡◌, ◌∙◌, sym, ap, ℕ, List, Some}
use Rattle.lpis_lineage.proofs.Common.{get, has_id, same_id, forgotten}
use Rattle.lpis_lineage.proofs.TakingBackLemmas.{forget-gone}
use Rattle.lpis_lineage.proofs.span.forget_spans.Goals as goal

pub loop-id-preserved-then-span-year : goal.loop-id-preserved-then-span-year
loop-id-preserved-then-span-year c =
    let had : get same_id c.loop-id.spans c.in-Some.id.now ≡ Some c.in-Some-copied.span = sym c.get.ensures.value ∙ sym c.copied.ensures ∙ c.in-Some-copied.is in
    λ q. forget-gone c.next.new.self c.in-Some.id.now q c.args.year c.in-Some-copied.span
    (λ k. get same_id c.loop-id.spans k) (get same_id c.remove.new.self q) had c.if-span-year.true
    (c.remove.ensures.updates.0 q)
    ∙ ap (λ (l : List (List ℕ)). forgotten (has_id l q) c.args.year (get same_id c.loop-id.spans q)) (sym c.in-Some.ensures.steps) ∙ c.loop-id.invariant q
