use Rattle.std.proofs.Common.{arith, sym, ◌∙◌}
use Rattle.lpis_wkt.proofs.SplittingLemmas.{word_token}
use Rattle.lpis_wkt.proofs.tokens.past_word.Goals as goal

pub returns-else-is_word-clause-word : goal.returns-else-is_word-clause-word
returns-else-is_word-clause-word c =
    let i = c.loop-i.invariant in
    word_token c.args.at c.loop-i.i c.args.text.now i.0 i.1 i.2 (λ lt. sym c.is_word.ensures ∙ c.if-is_word.false)

pub returns-after-loop-i-clause-word : goal.returns-after-loop-i-clause-word
returns-after-loop-i-clause-word c =
    let i = c.loop-i.invariant in
    word_token c.args.at c.loop-i.i c.args.text.now i.0 i.1 i.2 (λ lt. absurd (omega arith))
