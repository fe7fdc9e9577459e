use Rattle.std.proofs.Common.{◌≡◌, ◌≤◌, ◌-◌, ◌∙◌, List, ap, sym, subst, arith, rules, length, length-drop, nat_lt, take, drop, filter}
use Rattle.lpis_release.proofs.Common.{Join}
use Rattle.std.specs.List.Sorted.{IsPartitionedBy}
use Rattle.std.proofs.lemmas.List.{take_all}
use Rattle.std.proofs.lemmas.List.Sorted.{IsPartitionPoint-from_clause}
use Rattle.lpis_release.specs.private.Groups.{is_of_parcel}
use Rattle.lpis_release.proofs.GroupLemmas.{IsCount, IsStart, group-found, group-parts, start-parts}
use Rattle.lpis_release.proofs.groups.Groups.get.Goals as goal

pub returns : goal.returns
returns c =
    let xs = c.self.inside.joins.items in
    let k = c.args.parcel in
    let s = c.partition_point-start.result in
    let n = c.partition_point-count.result in
    let rest = take (length c.deref-2.result.now - s) (drop s c.deref-2.result.now) in
    let is_rest : rest ≡ drop s xs = take_all _ _ (omega (arith, length-drop s c.deref-2.result.now)) ∙ ap (drop s) c.deref-2.ensures.value in
    let start : IsStart xs k s = subst (λ (l : List Join). IsStart l k s) c.deref.ensures.value
    (IsPartitionPoint-from_clause (λ (j : Join). nat_lt j.parcel k) c.deref.result.now s c.partition_point-start.ensures.partitioned
    (subst (IsPartitionedBy (λ (j : Join). nat_lt j.parcel k)) (sym c.deref.ensures.value) (start-parts xs k c.self.invariant)) (λ a r f h. search rules)) in
    let count : IsCount (drop s xs) k n = subst (λ (l : List Join). IsCount l k n) is_rest
    (IsPartitionPoint-from_clause (is_of_parcel k) rest n c.partition_point-count.ensures.partitioned
    (subst (IsPartitionedBy (is_of_parcel k)) (sym is_rest) (group-parts xs k s c.self.invariant start)) (λ a r f h. search rules)) in
    let within : n ≤ length (drop s xs) = subst (λ (l : List Join). n ≤ length l) is_rest c.partition_point-count.ensures.bound in
    ap (take n) is_rest ∙ group-found xs k s n start count within ∙ ap (filter (is_of_parcel k)) c.self.view_is
