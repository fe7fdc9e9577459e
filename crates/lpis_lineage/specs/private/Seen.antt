-- What `accept` keeps of the rows that it has seen.
use Rattle.std.specs.Prelude.{◌≡◌, ◌&&◌, ℕ, List}
use Rattle.std.specs.List.{list_any}
use Rattle.lpis_lineage.specs.declared.row.Row.{Row}
use Rattle.lpis_lineage.specs.declared.seen.Seen.{Seen}
use Rattle.lpis_tables.specs.Ids.{has_id, same_id}
use Rattle.lpis_lineage.specs.Lineage.{is_ended, succeeded, is_row_of, names_successor}

pub record IsSeen (seen : Seen) (rows : List Row) : Type 0 where
  pub ended_are : (q : List ℕ) → has_id seen.ended q ≡ is_ended rows q
  pub continued_are : (q : List ℕ) → has_id seen.continued q ≡ succeeded rows q
  pub successors_are : (a b : List ℕ)
      → list_any (λ p. same_id a p.0 && same_id b p.1) seen.named_successors.keys
      ≡ list_any (λ row. is_row_of a row && names_successor b row) rows
