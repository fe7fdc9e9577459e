use Rattle.std.proofs.Common.{length, ◌-◌, ◌≡◌, ◌<◌, ◌≤◌, ℕ, true, get_or}
use Rattle.lpis_wkt.proofs.Common.{is_word}
use Rattle.lpis_wkt.proofs.tokens.past_word.Given as goal

abbrev pub invariant-loop-i : goal.invariant-loop-i
invariant-loop-i l = (l.at < l.i) × (l.i ≤ length l.text) × ((k : ℕ) → l.at ≤ k → k < l.i → is_word (get_or l.text k 0) ≡ true)

abbrev pub decreases-loop-i : goal.decreases-loop-i
decreases-loop-i l = length l.text - l.i
