use Rattle.std.proofs.Common.{length, ◌-◌, ◌≡◌, ◌≤◌, drop}
use Rattle.lpis_wkt.proofs.Common.{tokens_from}
use Rattle.lpis_wkt.proofs.tokens.past_space.Given as goal

abbrev pub invariant-loop-i : goal.invariant-loop-i
invariant-loop-i l = (l.i ≤ length l.text) × (tokens_from l.i (drop l.i l.text) ≡ tokens_from l.at (drop l.at l.text))

abbrev pub decreases-loop-i : goal.decreases-loop-i
decreases-loop-i l = length l.text - l.i
