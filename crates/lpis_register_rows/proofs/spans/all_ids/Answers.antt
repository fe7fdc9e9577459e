use Rattle.std.proofs.Common.{rules}
use Rattle.lpis_register_rows.proofs.SpanListLemmas.{live-more}
use Rattle.lpis_register_rows.proofs.spans.all_ids.Goals as goal

pub loop-entry-preserved : goal.loop-entry-preserved
loop-entry-preserved c = live-more c.args.entries.now c.loop-entry.entry-index c.entry-item.result c.loop-entry.ids.items _ c.loop-entry-test.true c.entry-item.is c.loop-entry.invariant (search rules)
