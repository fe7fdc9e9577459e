use Rattle.std.proofs.Common.{sym, ◌∙◌}
use Rattle.clap.specs.Words.{found_of, rows_of}
use Rattle.lpis_command_line.proofs.AskedLemmas.{no-exact}
use Rattle.lpis_command_line.proofs.commands.exact_asked.Goals as goal

pub returns-in_err-submission : goal.returns-in_err-submission
returns-in_err-submission c = rw c.from_residual.ensures (no-exact (rows_of (found_of c.args.matches.now)) (λ s out is at. c.in_err-submission.ensures s is))

pub returns-in_err-out : goal.returns-in_err-out
returns-in_err-out c = rw c.from_residual-in_err-out.ensures (no-exact (rows_of (found_of c.args.matches.now)) (λ s out is at. cc (sym at ∙ c.in_err-out.ensures)))
