use Rattle.clap.specs.Words.{found_of, rows_of}
use Rattle.lpis_command_line.proofs.AskedLemmas.{no-locate}
use Rattle.lpis_command_line.proofs.commands.locate_asked.Goals as goal

pub returns-in_err-tables : goal.returns-in_err-tables
returns-in_err-tables c = rw c.from_residual.ensures (no-locate (rows_of (found_of c.args.matches.now)) (λ f p is at. c.in_err-tables.ensures f.tables is))

pub returns-in_err-cert : goal.returns-in_err-cert
returns-in_err-cert c = rw c.from_residual-in_err-cert.ensures (no-locate (rows_of (found_of c.args.matches.now)) (λ f p is at. c.in_err-cert.ensures (f.cert, p) at))
