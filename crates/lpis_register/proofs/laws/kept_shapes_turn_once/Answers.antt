use Rattle.std.proofs.Common.{[]}
use Rattle.lpis_register.proofs.OrderedLemmas.{none_turns, turn_once}
use Rattle.lpis_register.specs.Holdings.{holdings}
use Rattle.lpis_register.proofs.laws.kept_shapes_turn_once.Goals as goal

pub returns-clause-after : goal.returns-clause-after
returns-clause-after c = turn_once

pub returns-clause-in_memory : goal.returns-clause-in_memory
returns-clause-in_memory c = λ after calls all. turn_once (holdings [] []) after calls all none_turns
