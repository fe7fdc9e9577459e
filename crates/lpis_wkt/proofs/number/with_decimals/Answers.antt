use Rattle.std.proofs.Common.{◌≡◌, ◌-◌, ◌∙◌, sym, arith}
use Rattle.lpis_wkt.proofs.DigitLemmas.{decimal_above, decimal_step}
use Rattle.lpis_wkt.proofs.number.with_decimals.Goals as goal

pub returns-then-value-greatest : goal.returns-then-value-greatest
returns-then-value-greatest c =
    let above = decimal_above c.loop-i.value c.args.decimals _ c.args.digits.now c.loop-i.i c.loop-i-test.true c.loop-i.invariant.1 in
    let past = rw c.digit_at.ensures.value at c.if-value-greatest.true in
    omega (arith, past, above)

pub loop-i-preserved : goal.loop-i-preserved
loop-i-preserved c =
    let step = decimal_step c.loop-i.value c.args.decimals c.args.digits.now c.loop-i.i c.loop-i-test.true in
    (c.if-value-greatest.false, rw c.digit_at.ensures.value (sym step ∙ c.loop-i.invariant.1))

pub returns : goal.returns
returns c =
    let ended : c.args.decimals - c.loop-i.i ≡ 0 = omega arith in
    (rw ended at c.loop-i.invariant.1, c.loop-i.invariant.0)
