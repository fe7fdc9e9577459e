use Rattle.clap.specs.Words.{found_of, rows_of}
use Rattle.lpis_command_line.proofs.AskedLemmas.{no-publish-country}
use Rattle.lpis_command_line.proofs.commands.publish_country_asked.Goals as goal

pub returns-in_err-year : goal.returns-in_err-year
returns-in_err-year c = rw c.from_residual.ensures (no-publish-country (rows_of (found_of c.args.matches.now)) (λ year x d of dir is. c.in_err-year.ensures year of))

pub returns-in_err-country : goal.returns-in_err-country
returns-in_err-country c = rw c.from_residual-in_err-country.ensures (no-publish-country (rows_of (found_of c.args.matches.now)) (λ year x d of dir is. c.in_err-country.ensures x dir))

pub returns-in_err-detail : goal.returns-in_err-detail
returns-in_err-detail c = rw c.from_residual-in_err-detail.ensures (no-publish-country (rows_of (found_of c.args.matches.now)) (λ year x d of dir is. c.in_err-detail.ensures d is))
