use Rattle.std.proofs.Common.{ℤ, int_le, rules}
use Rattle.std.proofs.lemmas.List.Sorted.{IsPartitionPoint-from_clause}
use Rattle.lpis_places.proofs.StripLemmas.{starts_parted, strip_there}
use Rattle.lpis_places.proofs.strips.strip_in.Goals as goal

pub returns : goal.returns
returns c =
    let starts = c.args.starts.now in
    let x = c.args.x in
    strip_there starts x c.partition_point.result c.partition_point.ensures.bound
    (IsPartitionPoint-from_clause (λ (s : ℤ). int_le s x) starts c.partition_point.result c.partition_point.ensures.partitioned (starts_parted starts x c.requires) (λ a r f h. search rules))
