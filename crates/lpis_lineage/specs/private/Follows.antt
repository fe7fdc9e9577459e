-- What one release more has to meet, said of the last release alone.
use Rattle.std.specs.Prelude.{◌≡◌, ◌≤◌, true, false, ℕ, List, length}
use Rattle.std.specs.List.{list_any, filter}
use Rattle.lpis_lineage.specs.declared.row.Row.{Row}
use Rattle.lpis_lineage.specs.declared.row.Entry.{Entry}
use Rattle.lpis_tables.specs.Ids.{has_id}
use Rattle.lpis_lineage.specs.Lineage.{holds, names_successor, is_row_of, same_row, last_live}
use Rattle.lpis_lineage.specs.ExactGroups.{MarksHold}
use Rattle.lpis_lineage.specs.Lawful.{IsAnswered}

pub record Follows (h : List Entry) (live : List (List ℕ)) (rows : List Row) : Type 0 where
  pub not_used : (id : List ℕ) (i : ℕ) → holds h i id ≡ true → has_id live id ≡ true
      → has_id (last_live h) id ≡ true
  pub answered : (id : List ℕ) → has_id (last_live h) id ≡ true → has_id live id ≡ false
      → IsAnswered rows id
  pub named : (id : List ℕ) → list_any (names_successor id) rows ≡ true → has_id live id ≡ true
  pub once : (row : Row) → length (filter (same_row row) rows) ≤ 1
  pub dropped : (id : List ℕ) → list_any (is_row_of id) rows ≡ true
      → (has_id (last_live h) id ≡ true)
      × (has_id live id ≡ false)
  pub marked : MarksHold (last_live h) live rows
