use Rattle.std.proofs.Common.{sym, ◌∙◌}
use Rattle.clap.specs.Words.{found_of, rows_of}
use Rattle.lpis_command_line.proofs.AskedLemmas.{no-exact-country}
use Rattle.lpis_command_line.proofs.commands.exact_country_asked.Goals as goal

pub returns-in_err-country : goal.returns-in_err-country
returns-in_err-country c = rw c.from_residual.ensures (no-exact-country (rows_of (found_of c.args.matches.now)) (λ x file dir at. c.in_err-country.ensures x dir))

pub returns-in_err-file : goal.returns-in_err-file
returns-in_err-file c = rw c.from_residual-in_err-file.ensures (no-exact-country (rows_of (found_of c.args.matches.now)) (λ x file dir at. cc (sym at ∙ c.in_err-file.ensures)))
