use Rattle.std.proofs.Common.{◌≡◌, ◌+◌, ◌-◌, refl, arith, append_assoc}
use Rattle.std.proofs.lemmas.Fmt.{length-decimal-le}
use Rattle.lpis_digits.proofs.PairLemmas.{decimal-pair, length-pair}
use Rattle.lpis_digits.proofs.writing.put_decimal.Goals as goal

pub loop-left-init : goal.loop-left-init
loop-left-init c = let long = length-decimal-le 20 c.args.value (omega arith) (omega arith) c.ranges.value.fits in (omega arith, omega arith, refl, refl)

pub overflow_sub-at : goal.overflow_sub-at
overflow_sub-at c = omega (arith, length-pair c.loop-left.left c.loop-left-test.true c.loop-left.auto.left-fits.fits)

pub put_pair-requires : goal.put_pair-requires
put_pair-requires c = omega (arith, length-pair c.loop-left.left c.loop-left-test.true c.loop-left.auto.left-fits.fits)

pub loop-left-preserved : goal.loop-left-preserved
loop-left-preserved c =
    let l = c.loop-left in
    let long = length-pair l.left c.loop-left-test.true l.auto.left-fits.fits in
    let b : l.at - 2 + 2 ≡ l.at = omega arith in (
      omega arith,
      omega arith,
      omega arith,
      rw (c.put_pair.ensures, b) (rw (decimal-pair l.left c.loop-left-test.true l.auto.left-fits.fits, append_assoc) at l.invariant.3),
    )

pub returns-clause-room : goal.returns-clause-room
returns-clause-room c =
    let long = length-decimal-le 20 c.args.value (omega arith) (omega arith) c.ranges.value.fits in omega (arith, c.loop-left.invariant.2, c.put_small.ensures.start)
