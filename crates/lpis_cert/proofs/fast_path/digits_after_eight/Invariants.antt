use Rattle.std.proofs.Common.{◌≡◌, take}
use Rattle.std.specs.Str.Parse.{AllDigits, digits_value}
use Rattle.lpis_cert.proofs.fast_path.digits_after_eight.Given as goal

abbrev pub invariant-loop-at : goal.invariant-loop-at
invariant-loop-at l = AllDigits 10 (take l.at l.text) × (l.value ≡ digits_value 10 (take l.at l.text))
