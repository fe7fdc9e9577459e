use Rattle.std.proofs.Common.{◌∙◌, ap, drop, nat_abs, to_z-of_z}
use Rattle.lpis_wkt_writer.proofs.NumberLemmas.{plain-text, minus-text}
use Rattle.lpis_wkt_writer.proofs.writing.put_number.Goals as goal

pub returns-then-value-ge0-clause-written : goal.returns-then-value-ge0-clause-written
returns-then-value-ge0-clause-written c =
    let back = to_z-of_z c.ranges.value in
    rw (c.put_decimal-start.ensures.written, c.put_byte-start.ensures.written, c.put_last_digits-start.ensures.written)
    (plain-text c.args.value c.unsigned_abs-size.result (drop c.args.end c.args.text.now) (rw back at c.if-value-ge0.true)
    (c.unsigned_abs-size.ensures.value ∙ ap nat_abs back))

pub returns-clause-written : goal.returns-clause-written
returns-clause-written c =
    let back = to_z-of_z c.ranges.value in
    rw (c.put_byte.ensures.written, c.put_decimal-start.ensures.written, c.put_byte-start.ensures.written, c.put_last_digits-start.ensures.written)
    (minus-text c.args.value c.unsigned_abs-size.result (drop c.args.end c.args.text.now) (rw back at c.if-value-ge0.false)
    (c.unsigned_abs-size.ensures.value ∙ ap nat_abs back))
