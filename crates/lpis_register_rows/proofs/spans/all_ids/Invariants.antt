use Rattle.std.proofs.Common.{◌≡◌, take}
use Rattle.lpis_register_rows.proofs.Common.{all_live}
use Rattle.lpis_register_rows.proofs.spans.all_ids.Given as goal

abbrev pub invariant-loop-entry : goal.invariant-loop-entry
invariant-loop-entry l = l.ids.items ≡ all_live (take l.entry-index l.entries)
