use Rattle.std.proofs.Common.{◌∙◌, sym}
use Rattle.lpis_country.proofs.ReadingLemmas.{no_line_end, takes_line}
use Rattle.lpis_country.proofs.reading.front_line.Goals as goal

pub returns-in-None : goal.returns-in-None
returns-in-None c = no_line_end c.args.text.now (sym c.line_end.ensures ∙ c.in-None.is)

pub returns-in-Some : goal.returns-in-Some
returns-in-Some c = takes_line c.args.text.now c.in-Some.at (sym c.line_end.ensures ∙ c.in-Some.is)
