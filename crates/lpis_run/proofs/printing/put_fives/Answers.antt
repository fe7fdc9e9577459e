use Rattle.std.proofs.Common.{◌∙◌, ap, nat_abs, arith, to_z-of_z, append-nil}
use Rattle.std.proofs.lemmas.List.{drop_all}
use Rattle.lpis_run.proofs.AreaLemmas.{plain-fives, minus-fives}
use Rattle.lpis_run.proofs.printing.put_fives.Goals as goal

pub returns-then-d-ge0-clause-written : goal.returns-then-d-ge0-clause-written
returns-then-d-ge0-clause-written c =
    let back = to_z-of_z c.ranges.d in
    rw (c.put_whole-start.ensures.written, c.put_byte-start.ensures.written, c.put_last_digits-start.ensures.written, drop_all 80 c.args.text.now (omega arith), append-nil)
    (plain-fives c.args.width c.args.d c.args.one c.unsigned_abs-units.result c.requires.power (c.unsigned_abs-units.ensures.value ∙ ap nat_abs back)
    (rw back at c.if-d-ge0.true))

pub returns-clause-written : goal.returns-clause-written
returns-clause-written c =
    let back = to_z-of_z c.ranges.d in
    rw (
      c.put_byte.ensures.written,
      c.put_whole-start.ensures.written,
      c.put_byte-start.ensures.written,
      c.put_last_digits-start.ensures.written,
      drop_all 80 c.args.text.now (omega arith),
      append-nil,
    )
    (minus-fives c.args.width c.args.d c.args.one c.unsigned_abs-units.result c.requires.power (c.unsigned_abs-units.ensures.value ∙ ap nat_abs back)
    (rw back at c.if-d-ge0.false))
