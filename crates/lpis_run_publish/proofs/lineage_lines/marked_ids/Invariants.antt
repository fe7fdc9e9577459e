use Rattle.std.proofs.Common.{◌≡◌, ℕ, List, take}
use Rattle.lpis_tables.specs.Ids.{has_id}
use Rattle.lpis_run_publish.specs.private.Marked.{is_marked}
use Rattle.lpis_run_publish.proofs.lineage_lines.marked_ids.Given as goal

abbrev pub invariant-loop-row : goal.invariant-loop-row
invariant-loop-row l = (id : List ℕ) → has_id l.marked.keys id ≡ is_marked (take l.row-index l.rows) id
