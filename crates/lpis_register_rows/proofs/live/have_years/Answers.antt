use Rattle.std.proofs.Common.{◌∙◌, arith, map, pos, refl, sym, Contains}
use Rattle.lpis_register_rows.proofs.Common.{KnownSpan}
use Rattle.lpis_register_rows.proofs.KnownLemmas.{all-at, all-more, all-whole}
use Rattle.lpis_register_rows.proofs.live.have_years.Goals as goal

pub loop-span-preserved : goal.loop-span-preserved
loop-span-preserved c = all-more (λ (s : KnownSpan). Contains (map (λ y. pos y) c.args.years.now) s.since)
    c.args.spans.now c.loop-span.span-index c.span-item.result c.loop-span-test.true c.span-item.is
    c.loop-span.invariant (c.has_year.ensures.0 c.if-not-has_year.false)

pub returns : goal.returns
returns c = (
  λ t. all-whole (λ (s : KnownSpan). Contains (map (λ y. pos y) c.args.years.now) s.since) c.args.spans.now
      c.loop-span.span-index (let e = c.loop-span-test.false in omega (arith, e)) c.loop-span.invariant,
  λ all. refl,
)

pub returns-then-not-has_year : goal.returns-then-not-has_year
returns-then-not-has_year c = (
  (λ t. cc t),
  (λ all. sym c.if-not-has_year.true
      ∙ c.has_year.ensures.1 (all-at (λ (s : KnownSpan). Contains (map (λ y. pos y) c.args.years.now) s.since)
      c.args.spans.now c.loop-span.span-index c.span-item.result c.loop-span-test.true c.span-item.is all)),
)
