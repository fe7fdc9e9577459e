use Rattle.std.proofs.Common.{◌≤◌, ℤ, nat_abs, pos, negsuc, Ok, sym, ap, ◌∙◌, rules, w64, SFits, to_z-of_z, arith}
use Rattle.std.proofs.lemmas.Int.{ints}
use Rattle.lpis_points.specs.Range.{IsInRange}
use Rattle.lpis_wkt.proofs.Common.{greatest_coordinate, number}
use Rattle.lpis_wkt.proofs.PointLemmas.{coordinate-ok, coordinate-err}
use Rattle.lpis_wkt.proofs.number.coordinate_of.Goals as goal

fits : (z : ℤ) → IsInRange z → SFits w64 z
fits z h = search rules

in_range : (z : ℤ) → nat_abs z ≤ greatest_coordinate → IsInRange z
in_range (pos n) le = (omega (arith, ints), omega (arith, ints))
in_range (negsuc n) le = (omega (arith, ints), omega (arith, ints))

pub returns-in-Ok : goal.returns-in-Ok
unfolding number
returns-in-Ok c = sym (coordinate-ok c.args.word.now _ (sym c.in-Ok.ensures.is ∙ ap Ok (sym (to_z-of_z (fits c.in-Ok.value (in_range c.in-Ok.value c.in-Ok.ensures.range))))))

pub returns-in-Err : goal.returns-in-Err
unfolding number
returns-in-Err c = sym (coordinate-err c.args.word.now c.in-Err.code (sym c.in-Err.ensures.is))
