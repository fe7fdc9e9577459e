use Rattle.std.proofs.Common.{◌∙◌, ap}
use Rattle.lpis_country_seam.specs.private.Kept.{row_ids}
use Rattle.lpis_country_seam.proofs.FindLemmas.{row-found, row-missing}
use Rattle.lpis_country_seam.proofs.kept.KeptRows.get.Goals as goal

pub returns-in-Some : goal.returns-in-Some
returns-in-Some c = row-found (λ p. p.now) c.args.id.now c.self.inside.keys.keys c.deref.result.now c.args.self.now c.get_index_of.result c.in-Some.index c.get.result (c.deref.ensures.value
    ∙ c.self.view_is) (c.self.invariant.0 ∙ ap row_ids c.self.view_is) c.get_index_of.ensures.index c.in-Some.is c.get.ensures.lookup

pub returns-in-None : goal.returns-in-None
returns-in-None c = row-missing c.args.id.now c.self.inside.keys.keys c.args.self.now c.get_index_of.result (c.self.invariant.0 ∙ ap row_ids c.self.view_is) c.get_index_of.ensures.index c.in-None.is
