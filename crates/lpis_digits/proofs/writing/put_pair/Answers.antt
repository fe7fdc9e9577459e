use Rattle.std.proofs.Common.{◌≡◌, ◌+◌, ◌%◌, set, arith, length-set}
use Rattle.std.proofs.lemmas.List.{set_comm, drop-set}
use Rattle.lpis_digits.proofs.PairLemmas.{pairs-at}
use Rattle.lpis_digits.proofs.writing.put_pair.Goals as goal

pub returns : goal.returns
returns c =
    let p = pairs-at c.args.pair c.requires.0 in
    let at = c.args.at in
    let text = c.args.text.now in
    let e : at + 1 + 1 ≡ at + 2 = omega arith in
    rw (
      p.0,
      p.1,
      set_comm text at (at + 1) _ _ (λ x. omega arith),
      drop-set (set text (at + 1) (48 + c.args.pair % 10)) at _ (omega (arith, length-set text (at + 1) (48 + c.args.pair % 10))),
      drop-set text (at + 1) _ (omega arith),
      e,
    )
