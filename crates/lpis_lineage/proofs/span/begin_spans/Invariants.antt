use Rattle.std.proofs.Common.{◌≡◌, ◌≤◌, ℕ, List, length}
use Rattle.lpis_lineage.proofs.Common.{get, has_id, same_id, begun}
use Rattle.std.specs.HashMap.{spare}
use Rattle.lpis_lineage.proofs.span.begin_spans.Given as goal

abbrev pub invariant-ids : goal.invariant-ids
invariant-ids l = record {
  room : length l.ids.items ≤ spare l.spans;
  rest : (q : List ℕ) → begun (has_id l.ids.items q) l.year (get same_id l.spans q) ≡ begun (has_id l.initial.ids.items q) l.year (get same_id l.initial.spans q);
}

abbrev pub decreases-ids : goal.decreases-ids
decreases-ids l = length l.ids.items
