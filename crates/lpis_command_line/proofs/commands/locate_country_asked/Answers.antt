use Rattle.clap.specs.Words.{found_of, rows_of}
use Rattle.lpis_command_line.proofs.AskedLemmas.{no-locate-country}
use Rattle.lpis_command_line.proofs.commands.locate_country_asked.Goals as goal

pub returns-in_err-country : goal.returns-in_err-country
returns-in_err-country c = rw c.from_residual.ensures (no-locate-country (rows_of (found_of c.args.matches.now)) (λ x p dir at. c.in_err-country.ensures x dir))

pub returns-in_err-points : goal.returns-in_err-points
returns-in_err-points c = rw c.from_residual-in_err-points.ensures (no-locate-country (rows_of (found_of c.args.matches.now)) (λ x p dir at. c.in_err-points.ensures p at))
