use Rattle.lpis_run_publish.proofs.MarkedLemmas.{marked-more}
use Rattle.lpis_run_publish.proofs.lineage_lines.note_mark.Goals as goal

pub returns-in_ok-insert : goal.returns-in_ok-insert
returns-in_ok-insert c = λ id. marked-more id c.args.row.now _ _ c.if-row.true (rw c.in_ok-id.ensures at (c.in_ok-insert.ensures.updates.0 id))
