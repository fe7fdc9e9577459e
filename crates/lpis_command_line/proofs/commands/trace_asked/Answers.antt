use Rattle.clap.specs.Words.{found_of, rows_of}
use Rattle.lpis_command_line.proofs.AskedLemmas.{no-trace}
use Rattle.lpis_command_line.proofs.commands.trace_asked.Goals as goal

pub returns-in_err-ids : goal.returns-in_err-ids
returns-in_err-ids c = rw c.from_residual.ensures (no-trace (rows_of (found_of c.args.matches.now)) (λ ids h. cc (h.1, c.in_err-ids.ensures)))
