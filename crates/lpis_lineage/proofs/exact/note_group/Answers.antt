use Rattle.lpis_lineage.proofs.Common.{get, same_id}
use Rattle.lpis_lineage.specs.Changes.{kind_at}
use Rattle.lpis_lineage.specs.private.Gathered.{set_in}
use Rattle.lpis_lineage.proofs.GroupLemmas.{has-others, others-added}
use Rattle.lpis_lineage.proofs.exact.note_group.Goals as goal

pub returns-clause-others : goal.returns-clause-others
returns-clause-others c = λ all.
    let K = kind_at c.args.change.now in
    let rows = c.args.change.now.rows in
    let g = c.in_ok-group.group in
    let e = c.in_ok-group.ensures in
    others-added K rows c.args.merge c.args.groups.now.items _ g c.in_ok-push.ensures.items
    (has-others K rows c.args.merge c.args.id.now (set_in (get same_id c.args.sets.now c.args.id.now)) g c.requires.named (λ x. c.requires.sets c.args.id.now x) e.name e.others e.ascend) all
