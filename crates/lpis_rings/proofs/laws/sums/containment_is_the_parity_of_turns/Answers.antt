use Rattle.lpis_rings.proofs.ParityLemmas.{contains_by_odd_turns, contains_by_one_turn}
use Rattle.lpis_rings.proofs.laws.sums.containment_is_the_parity_of_turns.Goals as goal

pub returns : goal.returns
returns c = record { odd = contains_by_odd_turns; one = contains_by_one_turn }
