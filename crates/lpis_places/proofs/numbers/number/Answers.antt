use Rattle.std.proofs.Common.{◌≤◌, ℤ, pos, negsuc, nat_abs, arith}
use Rattle.std.proofs.lemmas.Int.{ints}
use Rattle.std.proofs.lemmas.Result.{IfOk-weaker}
use Rattle.lpis_points.specs.RationalRange.{IsInRangeOver}
use Rattle.lpis_places.specs.Numbers.{greatest_size, number, parts}
use Rattle.lpis_places.proofs.numbers.number.Goals as goal

in_range : (z : ℤ) → nat_abs z ≤ greatest_size → IsInRangeOver parts z
in_range (pos n) le = (omega (arith, ints), omega (arith, ints))
in_range (negsuc n) le = (omega (arith, ints), omega (arith, ints))

pub returns-clause-is : goal.returns-clause-is
unfolding number
returns-clause-is c = c.number_within.ensures.is

pub returns-clause-range : goal.returns-clause-range
returns-clause-range c = IfOk-weaker c.number_within.result (λ z. nat_abs z ≤ greatest_size) (IsInRangeOver parts) in_range c.number_within.ensures.range
