use Rattle.std.proofs.Common.{◌+◌, ◌∷◌, [], ap, arith, length, length-append, pos, take, rules, List}
use Rattle.lpis_register_rows.proofs.Common.{err_from_is_err_and, Row}
use Rattle.lpis_register_rows.proofs.FrontLemmas.{run-end, run-more, run-position}
use Rattle.lpis_register_rows.proofs.KnownLemmas.{no-both, known-rows-next}
use Rattle.lpis_register_rows.proofs.opening.rows_of_year.Goals as goal

pub lines-preserved : goal.lines-preserved
lines-preserved c = (
  known-rows-next (pos c.args.year) (take c.args.from c.args.lines.now) (take c.lines.next c.args.lines.now) (take (c.lines.next + 1) c.args.lines.now)
      c.lines.rows.items c.push.new.self.items c.in_ok-row.row c.len.result c.lines.invariant.0 c.in_ok-row.ensures.row (search rules) c.in_ok-push.ensures.items,
  c.is_of_year.ensures.within c.lines-test.true,
  (let e = c.lines.invariant.2 in let n = ap (λ (l : List Row). length l) c.in_ok-push.ensures.items in let m = length-append c.lines.rows.items (c.in_ok-row.row ∷ []) in omega (arith, e, n, m)),
  (λ stop run. run-more c.args.lines.now c.args.from c.args.year stop c.lines.next run (c.lines.invariant.3 stop run) (c.is_of_year.ensures.year.0 c.lines-test.true)),
)

pub returns-clause-run : goal.returns-clause-run
returns-clause-run c = λ stop run. run-end c.args.lines.now c.args.from c.args.year stop c.lines.next
    (length c.lines.rows.items) run (c.lines.invariant.3 stop run) c.lines.invariant.2
    (λ e. no-both c.is_of_year.result (c.is_of_year.ensures.year.1 e) c.lines-test.false)

pub returns-in_err-row-clause-refused : goal.returns-in_err-row-clause-refused
returns-in_err-row-clause-refused c =
    let p = err_from_is_err_and c.from_residual.result c.from_residual.ensures.1 in
    rw (p.1, p.2) (λ e stop run.
    let year = c.is_of_year.ensures.year.0 c.lines-test.true in
    let more = run-more c.args.lines.now c.args.from c.args.year stop c.lines.next run (c.lines.invariant.3 stop run) year in
    c.in_err-row.ensures.refused e year (run-position c.args.lines.now c.args.from c.args.year stop
    c.lines.next c.len.result run (let n = c.lines.invariant.2 in let m = c.len.ensures in omega (arith, n, m))
    more))
