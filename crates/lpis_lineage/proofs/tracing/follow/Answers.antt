use Rattle.std.proofs.Common.{◌∙◌, ap, subst, List, take, ◌++◌, append_assoc}
use Rattle.lpis_lineage.proofs.Common.{Row, get, same_id}
use Rattle.lpis_lineage.specs.private.Following.{AllReach}
use Rattle.lpis_lineage.proofs.ChainLemmas.{fresh-row}
use Rattle.lpis_lineage.proofs.TellingLemmas.{take-at}
use Rattle.lpis_lineage.proofs.tracing.follow.Goals as goal

pub loop-row-preserved : goal.loop-row-preserved
loop-row-preserved c = λ before asked reach fresh.
    let rows = c.args.rows.now in
    let i = c.loop-row.row-index in
    let P : List Row → Type 0 = λ rs. AllReach (get same_id c.follow_row.new.reached) rs asked in
    subst P (append_assoc before (take i rows) _ ∙ ap (λ (l : List Row). before ++ l) (take-at rows i c.row-item.result c.loop-row-test.true c.row-item.is))
    (c.in_ok-follow_row.ensures (before ++ take i rows) asked (c.loop-row.invariant before asked reach fresh) (fresh-row before rows i c.row-item.result fresh c.loop-row-test.true c.row-item.is))
