use Rattle.std.proofs.Common.{◌≡◌, ◌∙◌, sym, true, false, arith, get_or, eq-eqb}
use Rattle.lpis_cert.proofs.Common.{nat_tests, is_gap}
use Rattle.lpis_cert.proofs.SplittingLemmas.{count_is, empty_word_uncounted, count_at_end}
use Rattle.lpis_cert.proofs.words.count.Goals as goal

pub returns-then-not-in_word : goal.returns-then-not-in_word
returns-then-not-in_word c =
    let gap : is_gap (get_or c.args.line.now c.loop-b.b-index 0) ≡ true = eq-eqb (get_or c.args.line.now c.loop-b.b-index 0) 32 c.if-b-eq32.true in
    let off : c.loop-b.in_word ≡ false = grind (arith, nat_tests) in
    sym (empty_word_uncounted c.loop-b.in_word c.loop-b.gaps c.loop-b.b-index c.args.line.now c.loop-b-test.true gap off) ∙ c.loop-b.invariant.1 ∙ count_is c.args.line.now

pub returns-then-in_word : goal.returns-then-in_word
returns-then-in_word c =
    sym (count_at_end c.loop-b.in_word true c.loop-b.gaps c.loop-b.b-index c.args.line.now c.loop-b-test.false c.if-in_word.true) ∙ c.loop-b.invariant.1 ∙ count_is c.args.line.now

pub returns-else-in_word : goal.returns-else-in_word
returns-else-in_word c =
    sym (count_at_end c.loop-b.in_word false c.loop-b.gaps c.loop-b.b-index c.args.line.now c.loop-b-test.false c.if-in_word.false) ∙ c.loop-b.invariant.1 ∙ count_is c.args.line.now
