use Rattle.std.proofs.Common.{◌≡◌, take}
use Rattle.lpis_lineage.proofs.id_set.copy_ids.Given as goal

abbrev pub invariant-loop-id : goal.invariant-loop-id
invariant-loop-id l = l.copies.items ≡ take l.id-index l.ids
