use Rattle.std.proofs.Common.{◌∙◌, sym}
use Rattle.lpis_cert.proofs.Common.{is_gap}
use Rattle.lpis_cert.proofs.SplittingLemmas.{uncut_without_match, cut}
use Rattle.lpis_cert.proofs.words.Words.next.Goals as goal

pub returns-in-None : goal.returns-in-None
returns-in-None c = sym c.self.view_is ∙ (rw c.if-not-self.false (uncut_without_match is_gap c.self.inside.line.now (sym c.gap_of.ensures ∙ c.in-None.is)))

pub returns-in-Some : goal.returns-in-Some
returns-in-Some c = sym c.self.view_is ∙ (rw c.if-not-self.false ((cut is_gap c.self.inside.line.now c.in-Some.at (sym c.gap_of.ensures ∙ c.in-Some.is)).0))
