use Rattle.std.proofs.Common.{take, flat_map}
use Rattle.lpis_run_publish.proofs.Common.{Appends}
use Rattle.lpis_run_publish.specs.TraceAnswer.{id_line}
use Rattle.lpis_run_publish.proofs.trace.print_ids.Given as goal

-- the lines of the first identifiers were written
abbrev pub invariant-loop-id : goal.invariant-loop-id
invariant-loop-id g l =
    Appends (g.W.Write.contents l.fn.out) (g.W.Write.contents l.out) (flat_map id_line (take l.id-index l.ids))
