use Rattle.std.proofs.Common.{arith}
use Rattle.lpis_cert.proofs.FastPathLemmas.{number_begins}
use Rattle.lpis_cert.proofs.fast_path.leading_number.Goals as goal

pub returns : goal.returns
returns c =
    let read = c.digits_of-count in
    let some = c.if-count-eq0.false in
    let within = read.ensures.within in
    let short = c.if-count-text.false in (
      number_begins c.args.text.now read.result.count read.result.value c.args.end read.ensures.digits read.ensures.value (omega (arith, some)) (omega (arith, within, short))
          c.if-text-count.false (c.is_padded.ensures c.if-is_padded.false) (omega arith),
      c.if-value-limit.false,
    )
