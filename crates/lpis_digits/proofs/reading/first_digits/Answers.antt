use Rattle.std.proofs.Common.{arith}
use Rattle.std.specs.Char.{is_ascii_digit}
use Rattle.lpis_digits.proofs.ByteLemmas.{run_of_take}
use Rattle.lpis_digits.proofs.RunLemmas.{value_below}
use Rattle.lpis_digits.proofs.reading.first_digits.Goals as goal

pub returns-then-text-lt-WORD-clause-few : goal.returns-then-text-lt-WORD-clause-few
returns-then-text-lt-WORD-clause-few c =
    let e = c.digits_of_short.ensures in
    value_below c.args.text.now _ _ (omega (arith, e.count)) e.value

pub returns-else-text-lt-WORD-clause-count : goal.returns-else-text-lt-WORD-clause-count
returns-else-text-lt-WORD-clause-count c = omega (arith, c.digits_of_word.ensures.count, run_of_take is_ascii_digit 8 c.args.text.now)

pub returns-else-text-lt-WORD-clause-few : goal.returns-else-text-lt-WORD-clause-few
returns-else-text-lt-WORD-clause-few c =
    let e = c.digits_of_word.ensures in
    value_below c.args.text.now _ _ (omega (arith, e.count, run_of_take is_ascii_digit 8 c.args.text.now)) e.value
