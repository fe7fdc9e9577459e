-- Rows by their own identifiers.
use Rattle.std.specs.Prelude.{◌≡◌, ◌≤◌, ℕ, List, length, map}
use Rattle.std.specs.List.{IsDistinct}
use Rattle.lpis_tables.specs.Ids.{same_id}
use Rattle.lpis_tables.specs.Table.{most_rows}

-- these are the identifiers of the rows, no two the same, and the rows are not too many
pub record IsKeyed {A : Type 0} (identifier : A → List ℕ) (ids : List (List ℕ)) (rows : List A) :
    Type 0 where
  pub same : ids ≡ map identifier rows
  pub distinct : IsDistinct same_id ids
  pub few : length rows ≤ most_rows
