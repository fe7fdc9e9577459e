use Rattle.clap.specs.Words.{found_of, rows_of}
use Rattle.lpis_command_line.proofs.AskedLemmas.{no-area}
use Rattle.lpis_command_line.proofs.commands.area_asked.Goals as goal

pub returns-in_err-table : goal.returns-in_err-table
returns-in_err-table c = rw c.from_residual.ensures (no-area (rows_of (found_of c.args.matches.now)) c.in_err-table.ensures)
