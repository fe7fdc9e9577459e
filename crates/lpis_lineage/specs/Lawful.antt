-- What a lawful history is, and that its rows fit, over the whole list of releases.
use Rattle.std.specs.Prelude.{◌≡◌, ◌<◌, ◌≤◌, ◌+◌, ◌⊎◌, ◌&&◌, true, false, not, ℕ, List, [], length}
use Rattle.std.specs.Prelude.{is_some}
use Rattle.std.specs.List.{list_any, filter}
use Rattle.lpis_lineage.specs.declared.row.Row.{Row}
use Rattle.lpis_lineage.specs.declared.row.Entry.{Entry}
use Rattle.lpis_lineage.specs.ExactGroups.{MarksHold}
use Rattle.lpis_lineage.specs.Lineage.{holds, entry_at, succeeded, names_successor, is_row_of}
use Rattle.lpis_lineage.specs.Lineage.{same_row}

-- the release after index i drops the identifier: the one at i holds it, and the next doesn't
abbrev pub Drops : List Entry → ℕ → List ℕ → Type 0
Drops h i id = (i + 1 < length h) × (holds h i id ≡ true) × (holds h (i + 1) id ≡ false)

-- how many rows end an identifier
abbrev pub endings : List Row → List ℕ → ℕ
endings rows id = length (filter (λ row. is_row_of id row && not (is_some row.new)) rows)

-- the rows give an identifier either one ending or at least one successor, and not both
abbrev pub IsAnswered : List Row → List ℕ → Type 0
IsAnswered rows id = ((endings rows id ≡ 1) × (succeeded rows id ≡ false))
    ⊎ ((endings rows id ≡ 0) × (succeeded rows id ≡ true))

-- a lawful history
pub record IsLawful (h : List Entry) : Type 0 where
  -- years rise, and the first is at least 1
  pub first_year : 0 < length h → 0 < (entry_at h 0).year
  pub years_rise : (i j : ℕ) → i < j → j < length h → (entry_at h i).year < (entry_at h j).year
  -- the releases that hold an identifier are consecutive
  pub consecutive : (id : List ℕ) (i j k : ℕ) → i ≤ j → j ≤ k → holds h i id ≡ true
      → holds h k id ≡ true → holds h j id ≡ true
  -- a dropped identifier has, in the release that drops it, either one ending or at least one
  -- successor, and not both
  pub continued : (id : List ℕ) (i : ℕ) → Drops h i id → IsAnswered (entry_at h (i + 1)).rows id
  -- each successor is in its release
  pub successors : (id : List ℕ) (i : ℕ) → list_any (names_successor id) (entry_at h i).rows ≡ true
      → holds h i id ≡ true

-- its rows fit
pub record RowsFit (h : List Entry) : Type 0 where
  -- the first release has no rows
  pub first : (entry_at h 0).rows ≡ []
  -- no row stands twice in a release
  pub once : (row : Row) (i : ℕ) → length (filter (same_row row) (entry_at h i).rows) ≤ 1
  -- each row's old identifier is one that its release drops
  pub of_dropped : (id : List ℕ) (i : ℕ) → list_any (is_row_of id) (entry_at h (i + 1)).rows ≡ true
      → Drops h i id
  -- each marked row belongs to a split or a merge all of whose rows are marked
  pub marked : (i : ℕ) → MarksHold (entry_at h i).live (entry_at h (i + 1)).live
      (entry_at h (i + 1)).rows
