use Rattle.std.proofs.Common.{◌≡◌, ◌∙◌, refl, sym, subst, ap, ℕ, List, Some, IsSome}
use Rattle.lpis_lineage.proofs.Common.{get, has_id, same_id, ended_in}
use Rattle.std.specs.Option.{option_copied_mut}
use Rattle.lpis_lineage.proofs.TakingBackLemmas.{reopen-some}
use Rattle.lpis_lineage.proofs.span.reopen_spans.Goals as goal

pub loop-id-preserved-in-Some-get_mut : goal.loop-id-preserved-in-Some-get_mut
loop-id-preserved-in-Some-get_mut c =
    let span = c.in-Some-get_mut.span.now in
    let had : get same_id c.loop-id.spans c.in-Some.id.now ≡ Some span = sym c.get_mut.ensures.value ∙ ap option_copied_mut c.in-Some-get_mut.is in
    let wrote = (c.get_mut.follows.holds (record { first = span.first; last = 0 })).3 (subst IsSome (sym had) refl) in
    λ q. reopen-some c.next.new.self c.in-Some.id.now q 0 span (λ k. get same_id c.loop-id.spans k) _ had (wrote.0 q)
    ∙ ap (λ (l : List (List ℕ)). ended_in (has_id l q) 0 (get same_id c.loop-id.spans q)) (sym c.in-Some.ensures.steps) ∙ c.loop-id.invariant q
