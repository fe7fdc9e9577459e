use Rattle.clap.specs.Words.{found_of, rows_of}
use Rattle.lpis_command_line.proofs.AskedLemmas.{no-check}
use Rattle.lpis_command_line.proofs.commands.check_asked.Goals as goal

pub returns-in_err-release : goal.returns-in_err-release
returns-in_err-release c = rw c.from_residual.ensures (no-check (rows_of (found_of c.args.matches.now)) c.in_err-release.ensures)
