use Rattle.std.proofs.Common.{◌≡◌, ◌≤◌, drop, true}
use Rattle.lpis_wkt.proofs.Common.{list_all, is_ascii_digit, digits_value_after}
use Rattle.lpis_wkt.proofs.number.whole_number.Given as goal

abbrev pub invariant-loop-b : goal.invariant-loop-b
invariant-loop-b l =
    (l.value ≤ l.greatest) × (list_all is_ascii_digit (drop l.b-index l.digits) ≡ true) × (digits_value_after 10 l.value (drop l.b-index l.digits) ≡ digits_value_after 10 0 l.digits)
