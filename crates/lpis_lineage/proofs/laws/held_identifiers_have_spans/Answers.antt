use Rattle.lpis_lineage.proofs.SpanStepLemmas.{none-held, some-held}
use Rattle.lpis_lineage.proofs.laws.held_identifiers_have_spans.Goals as goal

pub returns-clause-held : goal.returns-clause-held
returns-clause-held c = some-held

pub returns-clause-unheld : goal.returns-clause-unheld
returns-clause-unheld c = none-held
