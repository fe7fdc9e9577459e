use Rattle.std.proofs.Common.{◌≡◌, ℕ, List, take}
use Rattle.lpis_lineage.proofs.Common.{get, has_id, list_any, same_id}
use Rattle.lpis_lineage.specs.Changes.{kind_at}
use Rattle.lpis_lineage.specs.private.Gathered.{gathers, set_in}
use Rattle.lpis_lineage.proofs.exact.gather.Given as goal

abbrev pub invariant-loop-row : goal.invariant-loop-row
invariant-loop-row l = (q x : List ℕ) → has_id (set_in (get same_id l.sets q)) x ≡ list_any (gathers (kind_at l.change) l.merge q x) (take l.row-index l.row-items)
