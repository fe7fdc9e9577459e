use Rattle.std.proofs.Common.{◌≡◌, ◌+◌, ◌-◌, ◌%◌, drop, arith, sym, ◌∙◌}
use Rattle.std.proofs.lemmas.List.{drop-set}
use Rattle.lpis_digits.proofs.PairLemmas.{last-step}
use Rattle.lpis_digits.proofs.writing.put_last_digits.Goals as goal

pub loop-preserved : goal.loop-preserved
loop-preserved c =
    let l = c.loop in
    let e : l.at - 1 + 1 ≡ l.at = omega arith in
    (omega arith, rw (drop-set l.text (l.at - 1) (48 + l.left % 10) (omega arith), e) (sym (last-step c.args.width l.counter l.left (drop l.at l.text) c.loop-test.true) ∙ l.invariant.1))
