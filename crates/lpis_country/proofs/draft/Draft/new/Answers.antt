use Rattle.lpis_country.proofs.DraftLemmas.{begun_new}
use Rattle.lpis_country.proofs.draft.Draft.new.Goals as goal

pub returns-clause-begun : goal.returns-clause-begun
returns-clause-begun c = begun_new c.new.result c.new-2.result.items c.in_ok-new.field-0 c.frame.result c.new.ensures c.new-2.ensures.items c.frame.ensures c.in_ok-new.ensures
