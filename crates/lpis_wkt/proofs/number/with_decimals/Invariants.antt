use Rattle.std.proofs.Common.{◌≡◌, ◌≤◌, ◌-◌, drop}
use Rattle.lpis_wkt.proofs.Common.{digits_value_after, padded}
use Rattle.lpis_wkt.proofs.number.with_decimals.Given as goal

abbrev pub invariant-loop-i : goal.invariant-loop-i
invariant-loop-i l = (l.value ≤ l.greatest)
    × (digits_value_after 10 l.value (padded (l.decimals - l.i) (drop l.i l.digits)) ≡ digits_value_after 10 l.fn.front (padded l.decimals l.digits))
