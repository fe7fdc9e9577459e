use Rattle.std.proofs.Common.{◌∙◌, sym, [], length, ◌-◌, ◌+◌, take, drop}
use Rattle.lpis_cert.proofs.Common.{is_gap, words}
use Rattle.lpis_cert.proofs.SplittingLemmas.{uncut_without_match, cut}
use Rattle.lpis_cert.proofs.words.Words.front.Goals as goal

pub returns-in-None : goal.returns-in-None
returns-in-None c = ([], sym c.self.view_is ∙ (rw c.if-not-self.false (uncut_without_match is_gap c.self.inside.line.now (sym c.gap_of.ensures ∙ c.in-None.is))))

pub returns-in-Some : goal.returns-in-Some
returns-in-Some c =
    let xs = c.self.inside.line.now in
    (words (take (length xs - (c.in-Some.at + 1)) (drop (c.in-Some.at + 1) xs)), sym c.self.view_is ∙ (rw c.if-not-self.false ((cut is_gap xs c.in-Some.at (sym c.gap_of.ensures ∙ c.in-Some.is)).0)))
