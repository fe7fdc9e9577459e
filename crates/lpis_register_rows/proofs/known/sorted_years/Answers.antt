use Rattle.std.proofs.Common.{◌≤◌, ℕ, pos}
use Rattle.lpis_register_rows.proofs.Common.{All-permutation, last_of_years}
use Rattle.std.proofs.lemmas.List.Sorted.{IsPermutation-map}
use Rattle.lpis_register_rows.proofs.known.sorted_years.Goals as goal

pub returns-clause-same : goal.returns-clause-same
returns-clause-same c = rw c.in_ok-sorted.ensures.same at (IsPermutation-map (λ y. pos y) c.in_ok-sorted.sorted.items
    c.sort_unstable.new.self.items c.sort_unstable.ensures.permutation)

pub returns-clause-small : goal.returns-clause-small
returns-clause-small c = All-permutation (λ (y : ℕ). y ≤ last_of_years) c.in_ok-sorted.sorted.items c.sort_unstable.new.self.items c.sort_unstable.ensures.permutation c.in_ok-sorted.ensures.small
