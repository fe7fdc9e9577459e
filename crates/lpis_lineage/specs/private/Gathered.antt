-- What is gathered for the groups.
use Rattle.std.specs.Prelude.{◌≡◌, ◌&&◌, ◌||◌, Bool, cond, ℕ, List, [], Option, Some, None}
use Rattle.std.specs.List.{list_any}
use Rattle.lpis_tables.specs.Ids.{has_id, same_id}
use Rattle.lpis_lineage.specs.declared.exact.Group.{Group}
use Rattle.lpis_lineage.specs.declared.kind.Kind.{Kind}
use Rattle.lpis_lineage.specs.declared.row.Row.{Row}
use Rattle.lpis_lineage.specs.ExactGroups.{is_exact_merge, is_exact_split, is_kept, is_other}
use Rattle.lpis_lineage.specs.Lineage.{is_row_of, names_successor}
use Rattle.lpis_lineage.specs.Order.{IsAscending}

-- the set at a key, empty where there is none
abbrev pub set_in : Option (List (List ℕ)) → List (List ℕ)
set_in None = []
set_in (Some ids) = ids

-- a row gives q the other x: the successor of an old identifier; or the predecessor of a successor,
-- and the successor itself where it is kept
abbrev pub gathers : (List ℕ → Option Kind) → Bool → List ℕ → List ℕ → Row → Bool
gathers kind_of merge q x row =
    cond merge (names_successor q row && (is_row_of x row || (same_id x q && is_kept (kind_of x))))
    (is_row_of q row && names_successor x row)

-- the sets have the others that the rows give each identifier
abbrev pub AreGathered : (List ℕ → Option Kind) → Bool → List Row → (List ℕ → List (List ℕ))
    → Type 0
AreGathered kind_of merge rows set_of =
    (q x : List ℕ) → has_id (set_of q) x ≡ list_any (gathers kind_of merge q x) rows

abbrev pub is_exact_of : Bool → (List ℕ → Option Kind) → List Row → List ℕ → Bool
is_exact_of merge kind_of rows id =
    cond merge (is_exact_merge kind_of rows id) (is_exact_split kind_of rows id)

abbrev pub as_group : Bool → List ℕ → Bool × List ℕ
as_group merge id = (merge, id)

-- the others of a group ascend, and are those of its rows
pub record HasOthers (kind_of : List ℕ → Option Kind) (rows : List Row) (merge : Bool) (g : Group) :
    Type 0 where
  pub is_merge : g.merge ≡ merge
  pub ascend : IsAscending g.others
  pub others : (q : List ℕ) → has_id g.others q ≡ is_other kind_of rows g q
