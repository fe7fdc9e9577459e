use Rattle.std.proofs.Common.{◌≡◌, All, filter, map, take}
use Rattle.lpis_lineage.specs.Changes.{kind_at}
use Rattle.lpis_lineage.specs.ExactGroups.{group_name}
use Rattle.lpis_lineage.specs.private.Gathered.{HasOthers, as_group, is_exact_of}
use Rattle.lpis_lineage.proofs.exact.groups_of.Given as goal

abbrev pub invariant-loop-id : goal.invariant-loop-id
invariant-loop-id l = record {
  names : map group_name l.groups.items ≡ map (as_group l.merge) (filter (is_exact_of l.merge (kind_at l.change) l.change.rows) (take l.id-index l.ids));
  others : All (HasOthers (kind_at l.change) l.change.rows l.merge) l.groups.items;
}
