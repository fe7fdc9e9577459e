use Rattle.std.proofs.Common.{◌∙◌, ◌||◌, ap, Bool}
use Rattle.lpis_lineage.proofs.Common.{names_successor}
use Rattle.lpis_lineage.proofs.GroupLemmas.{any-next}
use Rattle.lpis_lineage.proofs.exact.successors_of.Goals as goal

pub loop-row-preserved : goal.loop-row-preserved
loop-row-preserved c = λ s.
    c.in_ok-note_successor.ensures s ∙ ap (λ (b : Bool). b || names_successor s c.row-item.result) (c.loop-row.invariant s)
    ∙ any-next (names_successor s) c.rows-row-items.result.now c.loop-row.row-index c.row-item.result c.loop-row-test.true c.row-item.is
