use Rattle.std.proofs.Common.{◌≡◌, ◌∙◌, ap, ℕ, List, not, filter}
use Rattle.lpis_lineage.proofs.Common.{has_id, last_live}
use Rattle.lpis_lineage.proofs.PickingLemmas.{has-filter}
use Rattle.lpis_lineage.proofs.StepLemmas.{fresh-lacking}
use Rattle.lpis_lineage.proofs.history.History.append.Goals as goal

pub put-requires-clause-next : goal.put-requires-clause-next
put-requires-clause-next c =
    let h = c.args.self.now in
    let live = c.args.live in
    let last = c.last_live-last.ensures in
    record {
      faultless = c.requires.clean;
      gone_are = λ q.
          ap (λ (l : List (List ℕ)). has_id l q) (c.as_slice.ensures.value ∙ c.in_ok-gone.ensures.list ∙ ap (λ (l : List (List ℕ)). filter (λ id. not (has_id live id)) l) last)
          ∙ has-filter (λ id. not (has_id live id)) (last_live h) q;
      fresh_are = λ q.
          ap (λ (l : List (List ℕ)). has_id l q) (c.in_ok-fresh.ensures.list ∙ ap (λ (l : List (List ℕ)). filter (λ id. not (has_id l id)) live) last)
          ∙ fresh-lacking h live c.args.rows.now c.requires.clean q;
    }
