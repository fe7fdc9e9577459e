use Rattle.clap.specs.Words.{found_of, rows_of}
use Rattle.lpis_command_line.proofs.AskedLemmas.{no-country}
use Rattle.lpis_command_line.proofs.commands.country_asked.Goals as goal

pub returns-in_err-country : goal.returns-in_err-country
returns-in_err-country c = rw c.from_residual.ensures (no-country (rows_of (found_of c.args.matches.now)) (λ x d dir is. c.in_err-country.ensures x dir))

pub returns-in_err-detail : goal.returns-in_err-detail
returns-in_err-detail c = rw c.from_residual-in_err-detail.ensures (no-country (rows_of (found_of c.args.matches.now)) (λ x d dir is. c.in_err-detail.ensures d is))
