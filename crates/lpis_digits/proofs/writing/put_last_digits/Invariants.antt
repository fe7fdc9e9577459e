use Rattle.std.proofs.Common.{◌≡◌, ◌+◌, ◌-◌, ◌++◌, drop}
use Rattle.lpis_points.specs.Decimals.{last_digits}
use Rattle.lpis_digits.proofs.writing.put_last_digits.Given as goal

abbrev pub invariant-loop : goal.invariant-loop
invariant-loop l = (l.at + l.counter ≡ l.end) × (last_digits (l.width - l.counter) l.left ++ drop l.at l.text ≡ last_digits l.width l.value ++ drop l.end l.fn.text)
