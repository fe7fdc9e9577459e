use Rattle.std.proofs.Common.{◌≡◌, ℕ, List, take}
use Rattle.lpis_lineage.proofs.Common.{has_id, list_any, names_successor}
use Rattle.lpis_lineage.proofs.exact.successors_of.Given as goal

abbrev pub invariant-loop-row : goal.invariant-loop-row
invariant-loop-row l = (s : List ℕ) → has_id l.named_successors s ≡ list_any (names_successor s) (take l.row-index l.row-items)
