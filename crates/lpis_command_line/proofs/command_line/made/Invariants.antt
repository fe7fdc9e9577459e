use Rattle.std.proofs.Common.{IfOk, fold, take}
use Rattle.clap.specs.Words.{new_app}
use Rattle.lpis_command_line.specs.private.Table.{IsCommandOf, with_argument}
use Rattle.lpis_command_line.proofs.command_line.made.Given as goal

abbrev pub invariant-loop-argument : goal.invariant-loop-argument
invariant-loop-argument l = IfOk l.command (IsCommandOf (fold with_argument (new_app l.line.name.now) (take l.argument-index l.line.arguments.now)))
