use Rattle.std.proofs.Common.{◌≡◌, ◌+◌, ◌-◌, ◌%◌, refl, arith, append_assoc}
use Rattle.std.proofs.lemmas.Fmt.{decimal_step_wide}
use Rattle.std.proofs.lemmas.List.{drop-set}
use Rattle.lpis_run.proofs.AreaLemmas.{length-wide, length-step}
use Rattle.lpis_run.proofs.printing.put_whole.Goals as goal

pub loop-left-init : goal.loop-left-init
loop-left-init c = (omega arith, refl, refl)

pub overflow_sub-at : goal.overflow_sub-at
overflow_sub-at c = omega (arith, length-wide c.args.value c.ranges.value.fits)

pub loop-left-preserved : goal.loop-left-preserved
loop-left-preserved c =
    let l = c.loop-left in
    let long = length-wide c.args.value c.ranges.value.fits in
    let step = length-step l.left (omega arith) l.auto.left-fits.fits in
    let e : l.at - 1 + 1 ≡ l.at = omega arith in (
      omega arith,
      omega arith,
      rw (drop-set l.text (l.at - 1) (48 + l.left % 10) (omega arith), e)
          (rw (decimal_step_wide l.left (omega arith) (omega (arith, l.auto.left-fits.fits)), append_assoc) at l.invariant.2),
    )

pub put_decimal-requires : goal.put_decimal-requires
put_decimal-requires c = omega (arith, length-wide c.args.value c.ranges.value.fits)

pub returns-clause-room : goal.returns-clause-room
returns-clause-room c = omega (arith, length-wide c.args.value c.ranges.value.fits, c.put_decimal.ensures.start, c.loop-left.invariant.1)
