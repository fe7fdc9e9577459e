use Rattle.std.proofs.Common.{IfOk, fold, take}
use Rattle.lpis_command_line.specs.Commands.{program_app}
use Rattle.lpis_command_line.specs.private.Table.{IsCommandOf, with_line}
use Rattle.lpis_command_line.proofs.command_line.command_line.Given as goal

abbrev pub invariant-loop-line : goal.invariant-loop-line
invariant-loop-line l = IfOk l.whole (IsCommandOf (fold with_line program_app (take l.line-index l.line-items)))
