-- Identifiers, rows and releases.
use Rattle.std.specs.Prelude.{◌&&◌, Bool, true, false, not, ℕ, zero, suc, List, [], ◌∷◌, length}
use Rattle.std.specs.Prelude.{Option, None, Some, is_some}
use Rattle.std.specs.List.{list_any}
use Rattle.lpis_tables.specs.Ids.{has_id, same_id}
use Rattle.lpis_lineage.specs.declared.row.Row.{Row}
use Rattle.lpis_lineage.specs.declared.row.Entry.{Entry}

-- the row's old identifier is this one
abbrev pub is_row_of : List ℕ → Row → Bool
is_row_of id row = same_id id row.old

-- an identifier is this one, where there is any
abbrev pub is_this : List ℕ → Option (List ℕ) → Bool
is_this id None = false
is_this id (Some s) = same_id id s

-- the row names this identifier as a successor
abbrev pub names_successor : List ℕ → Row → Bool
names_successor id row = is_this id row.new

-- some row ends this identifier
abbrev pub is_ended : List Row → List ℕ → Bool
is_ended rows id = list_any (λ row. is_row_of id row && not (is_some row.new)) rows

-- some row gives this identifier a successor
abbrev pub succeeded : List Row → List ℕ → Bool
succeeded rows id = list_any (λ row. is_row_of id row && is_some row.new) rows

-- two successors are the same, or there is none in both rows
abbrev pub same_new : Option (List ℕ) → Option (List ℕ) → Bool
same_new None None = true
same_new None (Some t) = false
same_new (Some s) None = false
same_new (Some s) (Some t) = same_id s t

-- two rows are the same
abbrev pub same_row : Row → Row → Bool
same_row r q = same_id r.old q.old && same_new r.new q.new

-- the release at an index, from 0; past the end an empty one
abbrev pub entry_at : List Entry → ℕ → Entry
entry_at [] i = record { year = 0; live = []; rows = [] }
entry_at (e ∷ h) zero = e
entry_at (e ∷ h) (suc i) = entry_at h i

-- the release at an index holds an identifier
abbrev pub holds : List Entry → ℕ → List ℕ → Bool
holds h i id = has_id (entry_at h i).live id

-- the identifiers live in the last release
abbrev pub last_live : List Entry → List (List ℕ)
last_live [] = []
last_live (e ∷ h) = (entry_at (e ∷ h) (length h)).live

-- the year of the last release, or 0
abbrev pub last_year : List Entry → ℕ
last_year [] = 0
last_year (e ∷ h) = (entry_at (e ∷ h) (length h)).year
