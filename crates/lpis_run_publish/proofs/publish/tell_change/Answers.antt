use Rattle.lpis_tables.specs.Ids.{has_id}
use Rattle.lpis_run_publish.proofs.Common.{kind_at}
use Rattle.lpis_run_publish.proofs.PublishLemmas.{told-lines}
use Rattle.lpis_run_publish.proofs.publish.tell_change.Goals as goal

pub returns-in-Ok-clause-text : goal.returns-in-Ok-clause-text
returns-in-Ok-clause-text c =
    told-lines c.args.head.items (kind_at c.args.change.now) (has_id c.in_ok-marked.marked.keys) c.args.change.now.rows c.args.change.now.dropped_ids c.args.year
    _ (rw c.rows.ensures at c.in_ok-marked.ensures) c.in-Ok.ensures
