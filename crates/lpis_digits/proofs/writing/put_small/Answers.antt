use Rattle.std.proofs.Common.{◌≡◌, ◌+◌, ◌-◌, arith}
use Rattle.std.proofs.lemmas.Fmt.{decimal_digit}
use Rattle.std.proofs.lemmas.List.{drop-set}
use Rattle.lpis_digits.proofs.PairLemmas.{length-one, decimal-two, length-two}
use Rattle.lpis_digits.proofs.writing.put_small.Goals as goal

pub overflow_sub-text : goal.overflow_sub-text
overflow_sub-text c = omega (arith, length-one c.args.value c.if-value-lt10.true)

pub bounds-text-end : goal.bounds-text-end
bounds-text-end c = omega (arith, length-one c.args.value c.if-value-lt10.true)

pub overflow_sub-result : goal.overflow_sub-result
overflow_sub-result c = omega (arith, length-one c.args.value c.if-value-lt10.true)

pub returns-then-value-lt10-clause-start : goal.returns-then-value-lt10-clause-start
returns-then-value-lt10-clause-start c = omega (arith, length-one c.args.value c.if-value-lt10.true)

pub returns-then-value-lt10-clause-written : goal.returns-then-value-lt10-clause-written
returns-then-value-lt10-clause-written c =
    let long = length-one c.args.value c.if-value-lt10.true in
    let e : c.args.end - 1 + 1 ≡ c.args.end = omega arith in
    rw (drop-set c.args.text.now (c.args.end - 1) _ (omega arith), e, decimal_digit c.args.value c.if-value-lt10.true)

pub overflow_sub-end : goal.overflow_sub-end
overflow_sub-end c = omega (arith, length-two c.args.value c.if-value-lt10.false c.requires.0)

pub put_pair-requires : goal.put_pair-requires
put_pair-requires c = omega (arith, length-two c.args.value c.if-value-lt10.false c.requires.0)

pub overflow_sub-result-2 : goal.overflow_sub-result-2
overflow_sub-result-2 c = omega (arith, length-two c.args.value c.if-value-lt10.false c.requires.0)

pub returns-clause-start : goal.returns-clause-start
returns-clause-start c = omega (arith, length-two c.args.value c.if-value-lt10.false c.requires.0)

pub returns-clause-written : goal.returns-clause-written
returns-clause-written c =
    let long = length-two c.args.value c.if-value-lt10.false c.requires.0 in
    let e : c.args.end - 2 + 2 ≡ c.args.end = omega arith in
    rw (c.put_pair.ensures, e, decimal-two c.args.value c.if-value-lt10.false c.requires.0)
