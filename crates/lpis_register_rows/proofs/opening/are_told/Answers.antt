use Rattle.std.proofs.Common.{◌∙◌, arith, refl, sym}
use Rattle.lpis_register_rows.proofs.Common.{KnownSpan, IsSpanRow, span_in}
use Rattle.lpis_register_rows.proofs.KnownLemmas.{all-at, all-more, all-whole}
use Rattle.lpis_register_rows.proofs.opening.are_told.Goals as goal

pub loop-span-preserved : goal.loop-span-preserved
loop-span-preserved c = all-more (λ (s : KnownSpan). IsSpanRow c.args.history.now (span_in s)) c.args.spans.now
    c.loop-span.span-index c.span-item.result c.loop-span-test.true c.span-item.is c.loop-span.invariant
    (c.is_told.ensures.0 c.if-not-is_told.false)

pub returns : goal.returns
returns c = (
  λ t. all-whole (λ (s : KnownSpan). IsSpanRow c.args.history.now (span_in s)) c.args.spans.now
      c.loop-span.span-index (let e = c.loop-span-test.false in omega (arith, e)) c.loop-span.invariant,
  λ all. refl,
)

pub returns-then-not-is_told : goal.returns-then-not-is_told
returns-then-not-is_told c = (
  (λ t. cc t),
  (λ all. sym c.if-not-is_told.true
      ∙ c.is_told.ensures.1 (all-at (λ (s : KnownSpan). IsSpanRow c.args.history.now (span_in s)) c.args.spans.now
      c.loop-span.span-index c.span-item.result c.loop-span-test.true c.span-item.is all)),
)
