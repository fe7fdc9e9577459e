use Rattle.std.proofs.Common.{◌∙◌, ap, sym, subst, List, take, ◌++◌}
use Rattle.lpis_lineage.proofs.Common.{Row, all_rows, AreFreshRows, IsLawful, RowsFit, get, same_id}
use Rattle.lpis_lineage.specs.private.Following.{AllReach}
use Rattle.lpis_lineage.proofs.ChainLemmas.{release-fresh, all-rows-next}
use Rattle.lpis_lineage.proofs.tracing.reached.Goals as goal

pub loop-entry-preserved : goal.loop-entry-preserved
loop-entry-preserved c =
    let h = c.releases-entry-items.result.now in
    let i = c.loop-entry.entry-index in
    let e = c.entry-item.result in
    let asked = c.args.asked.now in
    let law : IsLawful h = subst IsLawful (sym c.releases-entry-items.ensures.list) c.releases-entry-items.ensures.lawful in
    let fit : RowsFit h = subst RowsFit (sym c.releases-entry-items.ensures.list) c.releases-entry-items.ensures.fits in
    let P : List Row → Type 0 = λ rs. AllReach (get same_id c.follow.new.reached) rs asked in
    let F : List Row → Type 0 = λ rs. AreFreshRows (all_rows (take i h)) rs in
    subst P (ap (λ (l : List Row). all_rows (take i h) ++ l) c.as_slice.ensures ∙ all-rows-next h i e c.loop-entry-test.true c.entry-item.is)
    (c.in_ok-follow.ensures (all_rows (take i h)) asked c.loop-entry.invariant (subst F (sym c.as_slice.ensures) (release-fresh h law fit i e c.loop-entry-test.true c.entry-item.is)))
