use Rattle.std.proofs.Common.{◌∙◌, ap, List, ℕ, not, filter}
use Rattle.lpis_lineage.proofs.Common.{has_id}
use Rattle.lpis_lineage.proofs.IdentifierLemmas.{has-by_order}
use Rattle.lpis_lineage.proofs.PickingLemmas.{filter-same}
use Rattle.lpis_lineage.proofs.id_set.IdSet.lacking.Goals as goal

pub returns-clause-rest : goal.returns-clause-rest
returns-clause-rest c =
    c.difference.ensures.rest
    ∙ filter-same _ (λ id. not (has_id c.other.inside.ids.keys id)) c.self.inside.ids.keys (λ id. ap not (has-by_order c.other.inside.ids.keys id))
    ∙ ap (λ (l : List (List ℕ)). filter (λ id. not (has_id l id)) c.self.inside.ids.keys) c.other.view_is
    ∙ ap (λ (l : List (List ℕ)). filter (λ id. not (has_id c.args.other.now id)) l) c.self.view_is
