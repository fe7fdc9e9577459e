use Rattle.std.proofs.Common.{◌≡◌, ℕ, List, drop}
use Rattle.lpis_lineage.proofs.Common.{get, has_id, same_id, ended_in}
use Rattle.lpis_lineage.proofs.span.end_spans.Given as goal

abbrev pub invariant-loop-id : goal.invariant-loop-id
invariant-loop-id l = (q : List ℕ) → ended_in (has_id (drop l.id-index l.ids) q) l.year (get same_id l.spans q) ≡ ended_in (has_id l.ids q) l.year (get same_id l.initial.spans q)
