-- What splits and merges are in counts of successors and predecessors, as statements.
use Rattle.std.specs.Prelude.{◌≡◌, ◌<◌, ◌↔◌, true, false, ℕ, List, [], length, filter, All}
use Rattle.std.specs.List.{list_any}
use Rattle.lpis_tables.specs.Ids.{has_id}
use Rattle.lpis_lineage.specs.declared.row.Entry.{Entry}
use Rattle.lpis_lineage.specs.declared.row.Row.{Row}
use Rattle.lpis_lineage.specs.ExactGroups.{is_merge, is_split}
use Rattle.lpis_lineage.specs.Faults.{faults}
use Rattle.lpis_lineage.specs.Kinds.{kind, predecessors, successors}
use Rattle.lpis_lineage.specs.Lineage.{last_live, names_successor}

-- a split: an old identifier with several successors, each of which has one predecessor
pub record IsSplit (last live : List (List ℕ)) (rows : List Row) (id : List ℕ) : Type 0 where
  pub was : has_id last id ≡ true
  pub gone : has_id live id ≡ false
  pub several : 1 < length (successors rows id)
  pub alone : All (λ s. predecessors last live rows s ≡ 1) (successors rows id)

-- a merge: a successor with several predecessors, each of which has no other successor; a kept
-- successor is its own predecessor, and has no row
pub record IsMerge (last live : List (List ℕ)) (rows : List Row) (s : List ℕ) : Type 0 where
  pub named : list_any (names_successor s) rows ≡ true
  pub several : 1 < predecessors last live rows s
  pub alone : All (λ row. length (successors rows row.old) ≡ 1) (filter (names_successor s) rows)

-- of rows without a fault, kinds tell which identifiers were split
abbrev pub KindsShowSplits : Type 0
KindsShowSplits =
    (h : List Entry) (live : List (List ℕ)) (rows : List Row) → faults h live rows ≡ []
    → (id : List ℕ) → (is_split (kind (last_live h) live rows id) ≡ true)
    ↔ IsSplit (last_live h) live rows id

-- and which successors are of merges
abbrev pub KindsShowMerges : Type 0
KindsShowMerges =
    (h : List Entry) (live : List (List ℕ)) (rows : List Row) → faults h live rows ≡ []
    → (s : List ℕ) → (is_merge (kind (last_live h) live rows) rows s ≡ true)
    ↔ IsMerge (last_live h) live rows s
