use Rattle.std.proofs.Common.{◌≡◌, ◌++◌}
use Rattle.lpis_lineage.proofs.id_set.IdSet.ids.Given as goal

abbrev pub invariant-loop-id : goal.invariant-loop-id
invariant-loop-id l = l.copies.items ++ l.id-iterator ≡ l.self
