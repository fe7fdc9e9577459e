use Rattle.std.proofs.Common.{◌∙◌, sym}
use Rattle.lpis_cert.proofs.Common.{is_lf}
use Rattle.lpis_cert.proofs.SplittingLemmas.{uncut_without_match, takes_line}
use Rattle.lpis_cert.proofs.rest.front_line.Goals as goal

pub returns-in-None : goal.returns-in-None
returns-in-None c = uncut_without_match is_lf c.args.rest.text.now (sym c.line_end.ensures ∙ c.in-None.is)

pub returns-in-Some : goal.returns-in-Some
returns-in-Some c = takes_line c.args.rest.text.now c.args.rest.line c.in-Some.at (sym c.line_end.ensures ∙ c.in-Some.is)
