use Rattle.std.proofs.Common.{◌≡◌, arith}
use Rattle.lpis_cert.proofs.FastPathLemmas.{first_digits_are}
use Rattle.lpis_cert.proofs.fast_path.digits_of.Goals as goal

pub returns-then-first-lt8-clause-digits : goal.returns-then-first-lt8-clause-digits
returns-then-first-lt8-clause-digits c =
    let read = c.leading_digits-first in
    (first_digits_are c.args.text.now c.min.result read.result.count read.result.value read.ensures.within read.ensures.digits read.ensures.value).2

pub digits_after_eight-requires-clause-digits : goal.digits_after_eight-requires-clause-digits
digits_after_eight-requires-clause-digits c =
    let read = c.leading_digits-first in
    let are = first_digits_are c.args.text.now c.min.result read.result.count read.result.value read.ensures.within read.ensures.digits read.ensures.value in
    let most = c.min.ensures in
    let few = are.1 in
    let many = c.if-first-lt8.false in
    let eight : 8 ≡ read.result.count = omega (arith, most, few, many) in
    rw eight are.2

pub digits_after_eight-requires-clause-value : goal.digits_after_eight-requires-clause-value
digits_after_eight-requires-clause-value c =
    let read = c.leading_digits-first in
    let are = first_digits_are c.args.text.now c.min.result read.result.count read.result.value read.ensures.within read.ensures.digits read.ensures.value in
    let most = c.min.ensures in
    let few = are.1 in
    let many = c.if-first-lt8.false in
    let eight : 8 ≡ read.result.count = omega (arith, most, few, many) in
    rw eight are.3
