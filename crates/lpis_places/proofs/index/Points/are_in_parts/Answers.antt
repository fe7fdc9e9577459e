use Rattle.lpis_places.proofs.SlotLemmas.{all_in_parts}
use Rattle.lpis_places.proofs.index.Points.are_in_parts.Goals as goal

pub returns : goal.returns
returns c = all_in_parts c.args.self.now c.strips.result.1.now c.strips.ensures.has
