use Rattle.std.proofs.Common.{refl}
use Rattle.lpis_lineage.proofs.Common.{get, same_id}
use Rattle.lpis_lineage.proofs.TakingBackLemmas.{history-less}
use Rattle.lpis_lineage.proofs.history.History.take_back.Goals as goal

pub invariant_of-self : goal.invariant_of-self
invariant_of-self c = (
  history-less c.pop.new.self.items c.deref.result.now c.self.inside.entries.items _ c.in-Some.entry (λ id. get same_id c.self.inside.spans id) _
      c.self.invariant.0 c.in-Some.ensures.items refl c.deref.ensures.value (λ q. c.take_spans_back.ensures q),
  c.self.invariant.1,
)
