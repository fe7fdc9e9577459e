use Rattle.std.proofs.Common.{sym, ◌∙◌}
use Rattle.clap.specs.Words.{found_of, rows_of}
use Rattle.lpis_command_line.proofs.AskedLemmas.{no-cut}
use Rattle.lpis_command_line.proofs.commands.cut_asked.Goals as goal

pub returns-in_err-tables : goal.returns-in_err-tables
returns-in_err-tables c = rw c.from_residual.ensures (no-cut (rows_of (found_of c.args.matches.now)) (λ t cert dir is. c.in_err-tables.ensures t dir))

pub returns-in_err-cert : goal.returns-in_err-cert
returns-in_err-cert c = rw c.from_residual-in_err-cert.ensures (no-cut (rows_of (found_of c.args.matches.now)) (λ t cert dir is. cc (sym is ∙ c.in_err-cert.ensures)))
