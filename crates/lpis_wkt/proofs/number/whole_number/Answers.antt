use Rattle.std.proofs.Common.{arith}
use Rattle.lpis_wkt.proofs.DigitLemmas.{digit_above}
use Rattle.lpis_wkt.proofs.number.whole_number.Goals as goal

pub returns-then-value-greatest : goal.returns-then-value-greatest
returns-then-value-greatest c =
    let i = c.loop-b.invariant in
    omega (arith, c.from.ensures, c.if-value-greatest.true, digit_above c.loop-b.value _ c.args.digits.now c.loop-b.b-index c.loop-b-test.true i.1 i.2)
