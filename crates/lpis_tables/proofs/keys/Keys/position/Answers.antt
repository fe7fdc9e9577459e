use Rattle.std.proofs.Common.{List, ℕ, ap, ◌∙◌, position}
use Rattle.lpis_tables.specs.Ids.{same_id}
use Rattle.lpis_tables.proofs.KeyedLemmas.{at-position}
use Rattle.lpis_tables.proofs.keys.Keys.position.Goals as goal

pub returns-clause-at_index : goal.returns-clause-at_index
returns-clause-at_index c =
    at-position c.args.self.now c.args.id.now c.get_index_of.result
    (c.get_index_of.ensures.index ∙ ap (λ (keys : List (List ℕ)). position (same_id c.args.id.now) keys) c.self.view_is)
