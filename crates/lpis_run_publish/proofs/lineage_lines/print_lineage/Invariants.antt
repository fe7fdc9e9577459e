use Rattle.std.proofs.Common.{take, flat_map}
use Rattle.lpis_tables.specs.Ids.{has_id}
use Rattle.lpis_run_publish.proofs.Common.{Appends, kind_at, lineage_line}
use Rattle.lpis_run_publish.proofs.lineage_lines.print_lineage.Given as goal

-- the lines of the first identifiers were written
abbrev pub invariant-loop-id : goal.invariant-loop-id
invariant-loop-id g l =
    Appends (g.W.Write.contents l.fn.out) (g.W.Write.contents l.out) (flat_map (lineage_line (kind_at l.change) (has_id l.marked.keys)) (take l.id-index l.dropped))
