use Rattle.std.proofs.Common.{◌≡◌, ℕ, List}
use Rattle.lpis_lineage.proofs.Common.{get, has_id, same_id, forgotten}
use Rattle.lpis_lineage.proofs.span.forget_spans.Given as goal

abbrev pub invariant-loop-id : goal.invariant-loop-id
invariant-loop-id l = (q : List ℕ) → forgotten (has_id l.id-iterator q) l.year (get same_id l.spans q) ≡ forgotten (has_id l.ids q) l.year (get same_id l.initial.spans q)
