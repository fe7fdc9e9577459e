-- What one pass over the rows keeps of their marks.
use Rattle.std.specs.Prelude.{◌≡◌, ◌&&◌, not, ℕ, List, Option}
use Rattle.std.specs.List.{list_any}
use Rattle.lpis_tables.specs.Ids.{has_id}
use Rattle.lpis_lineage.specs.declared.kind.Kind.{Kind}
use Rattle.lpis_lineage.specs.declared.marks.Marks.{Marks}
use Rattle.lpis_lineage.specs.declared.row.Row.{Row}
use Rattle.lpis_lineage.specs.ExactGroups.{is_merged}
use Rattle.lpis_lineage.specs.Lineage.{is_row_of, names_successor}

-- the old identifiers of rows that are not marked, and the successors of rows that are not, or that
-- do not merge their old identifier
pub record AreMarks (kind_of : List ℕ → Option Kind) (m : Marks) (rows : List Row) : Type 0 where
  pub unsplit_are : (q : List ℕ) → has_id m.unsplit q
      ≡ list_any (λ (r : Row). is_row_of q r && not r.exact) rows
  pub unmerged_are : (s : List ℕ) → has_id m.unmerged s
      ≡ list_any (λ (r : Row). names_successor s r && not (is_merged (kind_of r.old)
      && r.exact)) rows
