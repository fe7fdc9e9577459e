use Rattle.std.proofs.Common.{◌∙◌, ◌++◌, ◌∷◌, [], ap, List, ℕ, Bool, filter, map}
use Rattle.lpis_lineage.specs.Changes.{kind_at}
use Rattle.lpis_lineage.specs.private.Gathered.{as_group, is_exact_of}
use Rattle.lpis_lineage.proofs.GroupLemmas.{names-next}
use Rattle.lpis_lineage.proofs.exact.groups_of.Goals as goal

pub loop-id-preserved : goal.loop-id-preserved
loop-id-preserved c =
    let p = is_exact_of c.args.merge (kind_at c.args.change.now) c.args.change.now.rows in
    let id = c.id-item.result in
    record {
      names = c.in_ok-note_group.ensures.names
          ∙ ap (λ (ns : List (Bool × List ℕ)). ns ++ map (as_group c.args.merge) (filter p (id ∷ []))) c.loop-id.invariant.names
          ∙ names-next (as_group c.args.merge) p c.args.ids.now c.loop-id.id-index id c.loop-id-test.true c.id-item.is;
      others = c.in_ok-note_group.ensures.others c.loop-id.invariant.others;
    }
