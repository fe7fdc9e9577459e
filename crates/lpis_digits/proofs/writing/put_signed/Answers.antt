use Rattle.std.proofs.Common.{◌≡◌, ◌+◌, ◌-◌, ◌++◌, ◌∷◌, drop, length, arith, ap, to_z-of_z}
use Rattle.std.proofs.lemmas.Fmt.{length-decimal-le}
use Rattle.std.proofs.lemmas.List.{drop-set}
use Rattle.std.specs.Fmt.{decimal, signed_decimal}
use Rattle.lpis_digits.proofs.PairLemmas.{minus-first}
use Rattle.lpis_digits.proofs.writing.put_signed.Goals as goal

pub overflow_sub-text : goal.overflow_sub-text
overflow_sub-text c = omega (arith, length-decimal-le 19 c.unsigned_abs.result (omega arith) (omega arith) (omega arith))

pub overflow_sub-result : goal.overflow_sub-result
overflow_sub-result c = omega (arith, length-decimal-le 19 c.unsigned_abs.result (omega arith) (omega arith) (omega arith))

pub returns-clause-start : goal.returns-clause-start
returns-clause-start c =
    let long = length-decimal-le 19 c.unsigned_abs.result (omega arith) (omega arith) (omega arith) in
    let back = to_z-of_z c.ranges.value in
    let same : 45 ∷ decimal c.unsigned_abs.result ≡ signed_decimal c.args.value = rw (c.unsigned_abs.ensures.value, back) (minus-first c.args.value (rw back at c.if-value-ge0.false)) in
    omega (arith, ap length same, c.put_decimal-start.ensures.start)

pub returns-clause-room : goal.returns-clause-room
returns-clause-room c =
    let long = length-decimal-le 19 c.unsigned_abs.result (omega arith) (omega arith) (omega arith) in omega (arith, c.put_decimal-start.ensures.start)

pub returns-clause-written : goal.returns-clause-written
returns-clause-written c =
    let w = c.put_decimal-start in
    let long = length-decimal-le 19 c.unsigned_abs.result (omega arith) (omega arith) (omega arith) in
    let e : w.result - 1 + 1 ≡ w.result = omega arith in
    let back = to_z-of_z c.ranges.value in
    rw (drop-set w.new.text (w.result - 1) 45 (omega arith), e, w.ensures.written, c.unsigned_abs.ensures.value, back)
    (ap (λ ds. ds ++ drop c.args.end c.args.text.now) (minus-first c.args.value (rw back at c.if-value-ge0.false)))
