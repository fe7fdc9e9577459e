use Rattle.std.proofs.Common.{◌∙◌, ◌-◌, ap, arith, length, ℕ, List, Option}
use Rattle.lpis_lineage.proofs.Common.{get, has_id, same_id, Span, ended_in, forgotten}
use Rattle.lpis_lineage.proofs.ExtensionLemmas.{last-entry}
use Rattle.lpis_lineage.proofs.span.take_spans_back.Goals as goal

pub returns-in-Some : goal.returns-in-Some
returns-in-Some c =
    let before = c.args.before.now in
    let is = c.in-Some.ensures.item in
    let found = last-entry before (length before - 1) c.in-Some.last.now (let some = is.3.0 in omega (arith, some)) is.1 in
    λ q. c.reopen_spans.ensures q
    ∙ ap (λ (o : Option Span). ended_in (has_id c.in-Some.last.now.live q) 0 o) (c.forget_spans.ensures q)
    ∙ ap (λ (l : List (List ℕ)). ended_in (has_id l q) 0 (forgotten (has_id c.args.entry.now.live q) c.args.entry.now.year (get same_id c.args.spans.now q))) found.1
