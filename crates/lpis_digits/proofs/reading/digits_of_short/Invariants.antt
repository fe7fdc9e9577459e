use Rattle.std.proofs.Common.{length, ◌-◌, ◌≡◌, ◌<◌, ◌≤◌, ◌^◌, take, true, get_or, ℕ}
use Rattle.std.specs.Char.{is_ascii_digit}
use Rattle.std.specs.Str.Parse.{digits_value}
use Rattle.lpis_digits.proofs.reading.digits_of_short.Given as goal

abbrev pub invariant-loop-count : goal.invariant-loop-count
invariant-loop-count l = (l.count ≤ length l.text) × ((k : ℕ) → k < l.count → is_ascii_digit (get_or l.text k 0) ≡ true) × (l.value ≡ digits_value 10 (take l.count l.text)) × (l.value < 10 ^ l.count)

abbrev pub decreases-loop-count : goal.decreases-loop-count
decreases-loop-count l = length l.text - l.count
