use Rattle.std.proofs.Common.{◌≡◌, ℕ, List}
use Rattle.lpis_lineage.proofs.Common.{get, has_id, same_id, ended_in}
use Rattle.lpis_lineage.proofs.span.reopen_spans.Given as goal

abbrev pub invariant-loop-id : goal.invariant-loop-id
invariant-loop-id l = (q : List ℕ) → ended_in (has_id l.id-iterator q) 0 (get same_id l.spans q) ≡ ended_in (has_id l.ids q) 0 (get same_id l.initial.spans q)
