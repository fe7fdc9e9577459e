use Rattle.std.proofs.Common.{◌∙◌, ℕ, List, true, cond, ap}
use Rattle.lpis_lineage.proofs.Common.{has_id, same_id}
use Rattle.lpis_lineage.proofs.IdentifierLemmas.{add-by_order}
use Rattle.lpis_lineage.proofs.id_set.IdSet.add.Goals as goal

pub returns : goal.returns
returns c = record {
  ok = λ q. add-by_order c.self.inside.ids.keys c.insert.new.self.keys c.args.id q (c.in_ok-insert.ensures.updates.0 q)
      ∙ ap (λ (l : List (List ℕ)). cond (same_id c.args.id q) true (has_id l q)) c.self.view_is;
}
