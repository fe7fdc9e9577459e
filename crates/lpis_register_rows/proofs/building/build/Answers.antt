use Rattle.lpis_register_rows.proofs.Common.{err_from_is_err_and, years_of}
use Rattle.lpis_register_rows.proofs.FrontLemmas.{as-long, due-now, front-whole, lines-whole, years-front-next}
use Rattle.lpis_register_rows.proofs.building.build.Goals as goal

pub returns-in_err-next-clause-refused : goal.returns-in_err-next-clause-refused
returns-in_err-next-clause-refused c =
    let p = err_from_is_err_and c.from_residual.result c.from_residual.ensures.1 in
    rw (p.1, p.2) (λ e h said years. c.in_err-next.ensures.refused e h said
    (due-now c.loop-year.history h c.args.lines.now c.loop-year.next c.args.years.now c.loop-year.year-index
    c.loop-year-test.true (c.loop-year.invariant.4 h said years) c.loop-year.invariant.0 years
    c.loop-year.invariant.2))

pub returns-then-next-lines-clause-refused : goal.returns-then-next-lines-clause-refused
returns-then-next-lines-clause-refused c = λ _ h said years.
    lines-whole c.args.spans.now c.args.lines.now c.loop-year.history h c.loop-year.next said
    (c.loop-year.invariant.4 h said years) (as-long c.loop-year.history h c.args.years.now c.loop-year.year-index
    c.loop-year.invariant.0 years c.loop-year-test.false) c.loop-year.invariant.2 c.if-next-lines.true

pub returns-clause-same : goal.returns-clause-same
returns-clause-same c = λ h said years. front-whole c.loop-year.history h (c.loop-year.invariant.4 h said years)
    (as-long c.loop-year.history h c.args.years.now c.loop-year.year-index c.loop-year.invariant.0 years
    c.loop-year-test.false)

pub loop-year-preserved : goal.loop-year-preserved
loop-year-preserved c = (
  years-front-next c.args.years.now c.loop-year.year-index (years_of c.loop-year.history) (years_of c.add_year.new.history)
      c.loop-year-test.true c.loop-year.invariant.0 c.in_ok-next.ensures.adds.years,
  c.in_ok-next.ensures.adds.sets c.loop-year.invariant.1,
  c.in_ok-next.ensures.adds.lines_are c.loop-year.invariant.2,
  c.in_ok-next.ensures.adds.within,
  (λ h said years. c.in_ok-next.ensures.adds.front h said (due-now c.loop-year.history h c.args.lines.now c.loop-year.next
      c.args.years.now c.loop-year.year-index c.loop-year-test.true (c.loop-year.invariant.4 h said years)
      c.loop-year.invariant.0 years c.loop-year.invariant.2)),
)
