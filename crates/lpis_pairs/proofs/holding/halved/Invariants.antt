use Rattle.std.proofs.Common.{◌≡◌, map, take}
use Rattle.lpis_pairs.specs.private.Holding.{half}
use Rattle.lpis_pairs.proofs.holding.halved.Given as goal

abbrev pub invariant-loop-extent : goal.invariant-loop-extent
invariant-loop-extent l = l.halves.items ≡ map half (take l.extent-index l.boxes)
