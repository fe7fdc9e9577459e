use Rattle.std.proofs.Common.{◌≡◌, ℕ, ◌+◌, ◌*◌, ◌^◌, List, true, get_or, sym, ◌∙◌, add-one, arith}
use borrow.Author.Count.{below_more}
use Rattle.std.proofs.Math.Nat.{pow-suc}
use Rattle.std.proofs.lemmas.Int.Digits.{digits_value_more}
use Rattle.std.proofs.lemmas.List.Sums.{prefix_len_is}
use Rattle.std.specs.Char.{is_ascii_digit}
use Rattle.lpis_digits.proofs.SpellingLemmas.{digit_is}
use Rattle.lpis_digits.proofs.reading.digits_of_short.Goals as goal

pub loop-count-preserved : goal.loop-count-preserved
loop-count-preserved c =
    let (within, all, value, few) = c.loop-count.invariant in
    let text : List ℕ = c.args.text.now in
    let i : ℕ = c.loop-count.count in
    let digit : is_ascii_digit (get_or text i 0) ≡ true = sym c.is_ascii_digit.ensures.value ∙ c.if-is_ascii_digit.true in
    let d = digit_is (get_or text i 0) digit in
    let worth = d.1 in
    let below = d.2 in
    let more = digits_value_more 10 text i c.loop-count-test.true in
    let power : 10 ^ (i + 1) ≡ 10 ^ i * 10 = rw add-one (pow-suc 10 i) in
    let is = c.from.ensures in
    (omega arith, below_more (λ k. is_ascii_digit (get_or text k 0) ≡ true) i all digit, omega arith, omega arith)

pub returns-else-is_ascii_digit-clause-count : goal.returns-else-is_ascii_digit-clause-count
returns-else-is_ascii_digit-clause-count c =
    let (within, all, value, few) = c.loop-count.invariant in
    sym (prefix_len_is is_ascii_digit c.args.text.now c.loop-count.count 0 within all (λ lt. sym c.is_ascii_digit.ensures.value ∙ c.if-is_ascii_digit.false))

pub returns-after-loop-count-clause-count : goal.returns-after-loop-count-clause-count
returns-after-loop-count-clause-count c =
    let (within, all, value, few) = c.loop-count.invariant in
    sym (prefix_len_is is_ascii_digit c.args.text.now c.loop-count.count 0 within all (λ lt. absurd (omega arith)))
