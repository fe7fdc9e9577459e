use Rattle.std.proofs.Common.{◌∙◌, ap, ℕ, List, true, ◌≡◌}
use Rattle.lpis_lineage.proofs.Common.{or_left, has_id, same_id, kind}
use Rattle.std.proofs.lemmas.Bool.{or_right}
use Rattle.lpis_lineage.proofs.IdentifierLemmas.{same-refl}
use Rattle.lpis_lineage.proofs.KindStepLemmas.{kinds-step}
use Rattle.lpis_lineage.proofs.change.kinds_of.Goals as goal

pub loop-id-preserved : goal.loop-id-preserved
loop-id-preserved c =
    let id = c.in-Some.id.now in
    let last = c.args.last.now in
    let live = c.args.live.now in
    let left = c.in-Some.ensures.steps in
    let was : has_id last id ≡ true = c.loop-id.invariant.among id (ap (λ (l : List (List ℕ)). has_id l id) left ∙ or_left (same_id id id) _ (same-refl id)) in
    record {
      among = λ q there. c.loop-id.invariant.among q (ap (λ (l : List (List ℕ)). has_id l q) left ∙ or_right (same_id q id) _ there);
      known = λ rows are q. kinds-step (λ x. kind last live rows x) c.loop-id.id-iterator c.next.new.self id c.in_ok-copy.copy q c.kind_of.result _ _ left c.in_ok-copy.ensures
          (c.kind_of.ensures last rows are was) (c.loop-id.invariant.known rows are q) (c.in_ok-insert.ensures.updates.0 q);
    }
