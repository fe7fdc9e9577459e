use Rattle.clap.specs.Words.{found_of, rows_of}
use Rattle.lpis_command_line.proofs.AskedLemmas.{no-publish}
use Rattle.lpis_command_line.proofs.commands.publish_asked.Goals as goal

pub returns-in_err-year : goal.returns-in_err-year
returns-in_err-year c = rw c.from_residual.ensures (no-publish (rows_of (found_of c.args.matches.now)) (λ year s of is. c.in_err-year.ensures year of))

pub returns-in_err-submission : goal.returns-in_err-submission
returns-in_err-submission c = rw c.from_residual-in_err-submission.ensures (no-publish (rows_of (found_of c.args.matches.now)) (λ year s of is. c.in_err-submission.ensures s is))
