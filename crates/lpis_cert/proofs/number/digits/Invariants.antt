use Rattle.std.proofs.Common.{◌≡◌, ◌≤◌, drop}
use Rattle.lpis_cert.specs.Reading.{digits_on}
use Rattle.lpis_cert.proofs.number.digits.Given as goal

abbrev pub invariant-loop-d : goal.invariant-loop-d
invariant-loop-d l = (l.value ≤ l.limit) × (digits_on l.limit l.value (drop l.d-index l.digits) ≡ digits_on l.limit 0 l.digits)
