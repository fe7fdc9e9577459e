-- Chains of rows, and the live descendants of an identifier.
use Rattle.std.specs.Prelude.{◌≡◌, ◌&&◌, ◌++◌, ◌∷◌, [], Bool, true, ℕ, List}
use Rattle.std.specs.List.{list_any}
use Rattle.lpis_lineage.specs.declared.row.Row.{Row}
use Rattle.lpis_lineage.specs.declared.row.Entry.{Entry}
use Rattle.lpis_tables.specs.Ids.{has_id}
use Rattle.lpis_lineage.specs.Lineage.{is_row_of, names_successor, last_live}

-- all rows of a history
abbrev pub all_rows : List Entry → List Row
all_rows [] = []
all_rows (e ∷ h) = e.rows ++ all_rows h

-- the row leads from one identifier to another
abbrev pub leads : List ℕ → List ℕ → Row → Bool
leads a b row = is_row_of a row && names_successor b row

-- a chain of rows from old to new, of any length from none on
pub data Chain (rows : List Row) (a : List ℕ) : List ℕ → Type 0 where
  Here : Chain rows a a
  Step : (b c : List ℕ) → Chain rows a b → list_any (leads b c) rows ≡ true → Chain rows a c

-- a live descendant: a member of the last release at which a chain from the identifier arrives
abbrev pub IsDescendant : List Entry → List ℕ → List ℕ → Type 0
IsDescendant h a b = Chain (all_rows h) a b × (has_id (last_live h) b ≡ true)
