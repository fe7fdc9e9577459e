use Rattle.std.proofs.Common.{◌≡◌, ◌++◌}
use Rattle.lpis_register_rows.proofs.spans.push_all.Given as goal

abbrev pub invariant-loop-id : goal.invariant-loop-id
invariant-loop-id l = l.ids.items ++ l.id-iterator ≡ l.initial.ids.items ++ l.set
