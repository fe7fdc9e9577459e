use Rattle.std.proofs.Common.{◌∙◌, sym}
use Rattle.lpis_lineage.proofs.SpanStepLemmas.{unlive-some, unlive-none}
use Rattle.lpis_lineage.proofs.history.History.last_held.Goals as goal

pub returns-in-Some : goal.returns-in-Some
returns-in-Some c = unlive-some c.args.self.now c.args.id.now c.in-Some.span c.requires (sym c.span.ensures ∙ c.in-Some.is)

pub returns-in-None : goal.returns-in-None
returns-in-None c = unlive-none c.args.self.now c.args.id.now (sym c.span.ensures ∙ c.in-None.is)
