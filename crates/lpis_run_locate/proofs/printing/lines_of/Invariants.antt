use Rattle.std.proofs.Common.{◌≡◌, take}
use Rattle.lpis_run_locate.specs.private.Lines.{lines_of}
use Rattle.lpis_run_locate.proofs.printing.lines_of.Given as goal

-- the lines of the points so far were added
abbrev pub invariant-loop-i : goal.invariant-loop-i
invariant-loop-i l = l.text.items ≡ lines_of (take l.i l.points) (take l.i l.found)
