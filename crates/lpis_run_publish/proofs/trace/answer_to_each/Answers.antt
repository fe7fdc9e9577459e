use Rattle.std.proofs.Common.{◌+◌, arith, ap, map, drop}
use Rattle.std.proofs.Math.ListN.{drop_of_length-le}
use Rattle.lpis_run_publish.proofs.TraceLemmas.{none-is-left, in-parts}
use Rattle.lpis_run_publish.proofs.trace.answer_to_each.Goals as goal

pub words-preserved : goal.words-preserved
words-preserved g c =
    let done = c.words.done in
    let end = done + c.min.result in
    record {
      within = omega (arith, c.words-test.true, c.words.invariant.within, c.min.ensures);
      so_far = c.in_ok-status.ensures (map (λ w. w.now) c.args.words.now) (map (λ w. w.now) (drop end c.args.words.now))
          (in-parts c.args.register.now.held.history (map (λ w. w.now) c.args.words.now) c.args.words.now done end (c.words.text.items, c.words.status) (omega arith) c.words.invariant.so_far);
    }

pub returns : goal.returns
returns g c = none-is-left _ _ _ c.words.text.items c.words.status (ap (map _) (drop_of_length-le c.args.words.now (omega (arith, c.words-test.false)))) c.words.invariant.so_far
