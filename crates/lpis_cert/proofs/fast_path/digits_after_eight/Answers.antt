use Rattle.std.proofs.Common.{arith, sym, ◌∙◌}
use Rattle.lpis_cert.proofs.FastPathLemmas.{digits_more, digits_room}
use Rattle.lpis_cert.proofs.fast_path.digits_after_eight.Goals as goal

pub overflow_mul-value : goal.overflow_mul-value
overflow_mul-value c =
    let most = c.min-most.ensures in
    let room = digits_room c.loop-at.at c.loop-at.value c.args.text.now (omega (arith, most, c.loop-at-test.true)) c.loop-at.invariant.0 c.loop-at.invariant.1 in
    omega (arith, room)

pub overflow_add-value : goal.overflow_add-value
overflow_add-value c =
    let most = c.min-most.ensures in
    let room = digits_room c.loop-at.at c.loop-at.value c.args.text.now (omega (arith, most, c.loop-at-test.true)) c.loop-at.invariant.0 c.loop-at.invariant.1 in
    let byte = c.from.ensures in
    omega (arith, room, byte)

pub loop-at-preserved : goal.loop-at-preserved
loop-at-preserved c =
    let most = c.min-most.ensures in
    digits_more c.loop-at.at c.loop-at.value c.from.result c.args.text.now (omega (arith, most, c.loop-at-test.true)) c.loop-at.invariant.0 c.loop-at.invariant.1
    (sym c.is_ascii_digit.ensures.value ∙ c.if-not-is_ascii_digit.false) c.from.ensures
