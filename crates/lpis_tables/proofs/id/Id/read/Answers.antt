use Rattle.std.proofs.Common.{◌∙◌, sym, ap}
use Rattle.lpis_tables.specs.Ids.{is_id}
use Rattle.lpis_tables.proofs.id.Id.read.Goals as goal

pub invariant_of-result : goal.invariant_of-result
invariant_of-result c = ap is_id c.padded.ensures ∙ (sym c.is_id_text.ensures ∙ c.if-not-is_id_text.false)
