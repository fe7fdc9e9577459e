-- What the loop over the table of commands keeps.
use Rattle.std.proofs.Common.{ℕ, ◌+◌, ◌<◌, List, length, fold, take, get_or, Result, IfOk}
use Rattle.std.proofs.lemmas.List.Sums.{fold_more}
use Rattle.clap.specs.Words.{App}
use Rattle.clap.specs.declared.builder.command.Command.{Command}
use Rattle.lpis_command_line.specs.Commands.{program_app}
use Rattle.lpis_command_line.specs.declared.arguments.Line.{Line}
use Rattle.lpis_command_line.specs.private.Table.{IsCommandOf, line_app, with_command, with_line}

-- a program with a line of the table more, by what joins the two
pub line-more : {E : Type 0} (program made joined : Result Command E) (lines : List Line) (i : ℕ) (d : Line) → i < length lines
    → IfOk program (IsCommandOf (fold with_line program_app (take i lines))) → IfOk made (IsCommandOf (line_app (get_or lines i d)))
    → ((whole one : App) → IfOk program (IsCommandOf whole) → IfOk made (IsCommandOf one) → IfOk joined (IsCommandOf (with_command whole one)))
    → IfOk joined (IsCommandOf (fold with_line program_app (take (i + 1) lines)))
line-more program made joined lines i d h p m both = rw (fold_more with_line program_app lines i d h) (both _ _ p m)
