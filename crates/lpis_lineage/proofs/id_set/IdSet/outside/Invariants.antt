use Rattle.std.proofs.Common.{◌≡◌, ◌++◌, true, not, filter, All}
use Rattle.lpis_tables.specs.Ids.{is_id}
use Rattle.lpis_lineage.proofs.Common.{has_id}
use Rattle.lpis_lineage.proofs.id_set.IdSet.outside.Given as goal

abbrev pub invariant-loop-id : goal.invariant-loop-id
invariant-loop-id l = (l.found.items ++ l.id-iterator ≡ filter (λ id. not (has_id l.self id)) l.other) × All (λ id. is_id id ≡ true) l.found.items
