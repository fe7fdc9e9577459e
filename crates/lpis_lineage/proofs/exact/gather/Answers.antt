use Rattle.std.proofs.Common.{◌∙◌, ◌||◌, ap, Bool}
use Rattle.lpis_lineage.specs.Changes.{kind_at}
use Rattle.lpis_lineage.specs.private.Gathered.{gathers}
use Rattle.lpis_lineage.proofs.GroupLemmas.{any-next}
use Rattle.lpis_lineage.proofs.exact.gather.Goals as goal

pub loop-row-preserved : goal.loop-row-preserved
loop-row-preserved c = λ q x.
    let p = gathers (kind_at c.args.change.now) c.args.merge q x in
    c.in_ok-note_row.ensures q x ∙ ap (λ (b : Bool). b || p c.row-item.result) (c.loop-row.invariant q x)
    ∙ any-next p c.rows-row-items.result.now c.loop-row.row-index c.row-item.result c.loop-row-test.true c.row-item.is
