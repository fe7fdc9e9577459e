use Rattle.std.proofs.Common.{◌∙◌, arith}
use Rattle.lpis_lineage.proofs.Common.{get, same_id}
use Rattle.lpis_lineage.proofs.PopStepLemmas.{begun-pop}
use Rattle.lpis_lineage.proofs.span.begin_spans.Goals as goal

pub ids-preserved : goal.ids-preserved
ids-preserved c = record {
  room = omega (arith, c.in-Some.ensures.cases, c.insert.ensures.spare, c.ids.invariant.room);
  rest = λ q. begun-pop c.ids.ids.items c.pop.new.self.items c.in-Some.id q c.args.year (get same_id c.ids.spans q)
      (get same_id c.insert.new.self q) c.in-Some.ensures.items (c.in-Ok.ensures.updates.0 q) ∙ c.ids.invariant.rest q;
}
