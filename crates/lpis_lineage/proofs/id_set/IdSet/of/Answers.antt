use Rattle.std.proofs.Common.{◌≡◌, ◌∙◌, sym, ap, rules, List, ℕ}
use Rattle.lpis_lineage.proofs.Common.{has_id}
use Rattle.std.proofs.lemmas.Iterator.{items_from_drains}
use Rattle.std.proofs.lemmas.Iterator.Adapters.{YieldsList-from_vec}
use Rattle.std.proofs.lemmas.List.{map-id}
use Rattle.lpis_lineage.proofs.IdentifierLemmas.{has-by_order}
use Rattle.lpis_lineage.proofs.id_set.IdSet.of.Goals as goal

pub returns : goal.returns
returns c = λ q.
    let h = c.in_ok-ids.ensures.ran in
    let all : h.1 ≡ c.in_ok-copies.copies.items = sym (map-id h.1) ∙ items_from_drains h.1 h.3 (YieldsList-from_vec c.in_ok-copies.copies.items h.2.0 (h.2.1 ∙ search rules)) in
    sym (has-by_order c.in_ok-ids.ids.keys q) ∙ h.4.0 q ∙ has-by_order h.1 q ∙ ap (λ (l : List (List ℕ)). has_id l q) (all ∙ c.in_ok-copies.ensures)
