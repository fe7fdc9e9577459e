use Rattle.std.proofs.Common.{◌∙◌, ap, List, ℕ}
use Rattle.lpis_tables.specs.Ids.{has_id}
use Rattle.lpis_country_seam.proofs.IdLemmas.{has-by-order}
use Rattle.lpis_country_seam.proofs.identifiers.Identifiers.contains.Goals as goal

pub returns : goal.returns
returns c = c.contains.ensures ∙ has-by-order _ c.args.id.now ∙ ap (λ (l : List (List ℕ)). has_id l c.args.id.now) c.self.view_is
