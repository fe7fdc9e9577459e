use Rattle.std.proofs.Common.{◌≡◌, ◌∙◌, ◌+◌, refl, sym, subst, ap, ℕ, List, Some, None, IsSome, drop}
use Rattle.lpis_lineage.proofs.Common.{get, has_id, same_id, ended_in}
use Rattle.std.specs.Option.{option_copied_mut}
use Rattle.lpis_lineage.proofs.TakingBackLemmas.{reopen-none, reopen-some}
use Rattle.lpis_lineage.proofs.TellingLemmas.{drop-at}
use Rattle.lpis_lineage.proofs.span.end_spans.Goals.{in-Some, in_default}
use Rattle.lpis_lineage.proofs.span.end_spans.Goals as goal

pub loop-id-preserved : goal.loop-id-preserved
loop-id-preserved c =
    let year = c.args.year in
    let id = c.id-item.result in
    let rest = drop-at c.args.ids.now c.loop-id.id-index id c.loop-id-test.true c.id-item.is in
    elim c.match-get_mut.branch [
      | in-Some w ↦
          let span = w.in-Some.span.now in
          let had : get same_id c.loop-id.spans id ≡ Some span = sym c.get_mut.ensures.value ∙ ap option_copied_mut w.in-Some.is in
          let wrote = (c.get_mut.follows.holds (record { first = span.first; last = year })).3 (subst IsSome (sym had) refl) in
          rw w.spans-is (λ q. reopen-some (drop (c.loop-id.id-index + 1) c.args.ids.now) id q year span (λ k. get same_id c.loop-id.spans k) _ had (wrote.0 q)
          ∙ ap (λ (l : List (List ℕ)). ended_in (has_id l q) year (get same_id c.loop-id.spans q)) (sym rest) ∙ c.loop-id.invariant q)
      | in_default w ↦
          let had : get same_id c.loop-id.spans id ≡ None = sym c.get_mut.ensures.value ∙ ap option_copied_mut w.in_default.is in
          rw w.spans-is (λ q. ap (λ m. ended_in (has_id (drop (c.loop-id.id-index + 1) c.args.ids.now) q) year (get same_id m q)) c.get_mut.follows.holds-at-none
          ∙ reopen-none (drop (c.loop-id.id-index + 1) c.args.ids.now) id q year (λ k. get same_id c.loop-id.spans k) had
          ∙ ap (λ (l : List (List ℕ)). ended_in (has_id l q) year (get same_id c.loop-id.spans q)) (sym rest) ∙ c.loop-id.invariant q)
    ]
