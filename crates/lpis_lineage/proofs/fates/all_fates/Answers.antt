use Rattle.std.proofs.Common.{List, take}
use Rattle.lpis_lineage.proofs.Common.{Row, AreFates}
use Rattle.lpis_lineage.proofs.TellingLemmas.{seen-next}
use Rattle.lpis_lineage.proofs.FateLemmas.{successor-named}
use Rattle.lpis_lineage.proofs.fates.all_fates.Goals as goal

pub loop-row-preserved : goal.loop-row-preserved
loop-row-preserved c =
    let rows = c.args.rows.now in
    let i = c.loop-row.row-index in
    let P : List Row → Type 0 = λ rs. AreFates c.args.last.now c.args.live.now rows c.note_row.new.fates rs in
    seen-next rows i c.row-item.result P c.loop-row-test.true c.row-item.is
    (c.in_ok-note_row.ensures rows (take i rows) c.in_ok-named.ensures
    (successor-named rows i c.row-item.result c.loop-row-test.true c.row-item.is) c.loop-row.invariant)
