-- Which identifiers a list has, and which more than once.
use Rattle.std.specs.Prelude.{◌≡◌, nat_lt, ℕ, List}
use Rattle.lpis_tables.specs.Ids.{has_id}
use Rattle.lpis_lineage.specs.declared.tally.Tally.{Tally}
use Rattle.lpis_lineage.specs.Kinds.{id_times}

-- a tally tells which identifiers a list has, and which more than once
pub record IsTally (t : Tally) (ids : List (List ℕ)) : Type 0 where
  pub once_are : (q : List ℕ) → has_id t.once q ≡ has_id ids q
  pub twice_are : (q : List ℕ) → has_id t.twice q ≡ nat_lt 1 (id_times ids q)
