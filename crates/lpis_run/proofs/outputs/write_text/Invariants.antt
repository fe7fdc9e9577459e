use Rattle.std.proofs.Common.{◌≤◌, length, take}
use Rattle.lpis_run.proofs.Common.{Appends}
use Rattle.lpis_run.proofs.outputs.write_text.Given as goal

-- the first bytes of the text were written
abbrev pub invariant-loop : goal.invariant-loop
invariant-loop g l =
    (l.written ≤ length l.fn.text) × Appends (g.W.Write.contents l.fn.out) (g.W.Write.contents l.out) (take l.written l.fn.text)
