use Rattle.lpis_edge_sums.proofs.MakingLemmas.{area_as_parts, turns_as_parts}
use Rattle.lpis_edge_sums.proofs.laws.a_whole_turns_as_its_parts.Goals as goal

pub returns : goal.returns
returns c = record { turns = turns_as_parts; area = area_as_parts }
