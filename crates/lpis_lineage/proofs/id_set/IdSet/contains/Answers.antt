use Rattle.std.proofs.Common.{◌∙◌, ap, List, ℕ}
use Rattle.lpis_lineage.proofs.Common.{has_id}
use Rattle.lpis_lineage.proofs.IdentifierLemmas.{has-by_order}
use Rattle.lpis_lineage.proofs.id_set.IdSet.contains.Goals as goal

pub returns : goal.returns
returns c = c.contains.ensures ∙ has-by_order _ c.args.id.now ∙ ap (λ (l : List (List ℕ)). has_id l c.args.id.now) c.self.view_is
