-- Exact splits and merges: those all of whose rows are marked.
use Rattle.std.specs.Prelude.{◌≡◌, ◌&&◌, ◌||◌, ◌++◌, Bool, true, false, not, cond, ℕ, List, map}
use Rattle.std.specs.Prelude.{Option, None, Some, All, filter}
use Rattle.std.specs.List.{list_all, list_any}
use Rattle.lpis_tables.specs.Ids.{has_id, same_id}
use Rattle.lpis_lineage.specs.declared.kind.Kind.{Kind}
use Rattle.lpis_lineage.specs.declared.kind.Kind.TheVariants.{Kept, Split, Merged}
use Rattle.lpis_lineage.specs.declared.exact.Group.{Group}
use Rattle.lpis_lineage.specs.declared.row.Row.{Row}
use Rattle.lpis_lineage.specs.Descendants.{leads}
use Rattle.lpis_lineage.specs.Kinds.{kind}
use Rattle.lpis_lineage.specs.Lineage.{is_row_of, names_successor}
use Rattle.lpis_lineage.specs.Order.{IsAscending}

-- an identifier was split
abbrev pub is_split : Option Kind → Bool
is_split (Some Split) = true
is_split _ = false

-- it was merged: it has one successor, which has other predecessors too
abbrev pub is_merged : Option Kind → Bool
is_merged (Some Merged) = true
is_merged _ = false

-- it is kept
abbrev pub is_kept : Option Kind → Bool
is_kept (Some Kept) = true
is_kept _ = false

-- some row names the successor, and each that does merges its old identifier
abbrev pub is_merge : (List ℕ → Option Kind) → List Row → List ℕ → Bool
is_merge kind_of rows s = list_any (names_successor s) rows
    && list_all (λ row. is_merged (kind_of row.old)) (filter (names_successor s) rows)

-- a split all of whose rows are marked
abbrev pub is_exact_split : (List ℕ → Option Kind) → List Row → List ℕ → Bool
is_exact_split kind_of rows id = is_split (kind_of id)
    && list_all (λ row. row.exact) (filter (is_row_of id) rows)

-- a merge all of whose rows are marked
abbrev pub is_exact_merge : (List ℕ → Option Kind) → List Row → List ℕ → Bool
is_exact_merge kind_of rows s = is_merge kind_of rows s
    && list_all (λ row. row.exact) (filter (names_successor s) rows)

-- there is a successor, and it is one of an exact merge
abbrev pub is_into_merge : (List ℕ → Option Kind) → List Row → Option (List ℕ) → Bool
is_into_merge kind_of rows None = false
is_into_merge kind_of rows (Some s) = is_exact_merge kind_of rows s

-- the row belongs to an exact split or to an exact merge
abbrev pub is_in_exact : (List ℕ → Option Kind) → List Row → Row → Bool
is_in_exact kind_of rows row = is_exact_split kind_of rows row.old
    || is_into_merge kind_of rows row.new

-- the row is marked, and belongs to neither
abbrev pub is_outside : (List ℕ → Option Kind) → List Row → Row → Bool
is_outside kind_of rows row = row.exact && not (is_in_exact kind_of rows row)

-- from these identifiers to those by these rows, each marked row belongs to an exact split or to an
-- exact merge
abbrev pub MarksHold : (last live : List (List ℕ)) → List Row → Type 0
MarksHold last live rows = list_any (is_outside (kind last live rows) rows) rows ≡ false

-- ---- the groups
-- a predecessor of a successor: some row leads from it, or it is the successor, which is kept
abbrev pub leads_into : (List ℕ → Option Kind) → List Row → List ℕ → List ℕ → Bool
leads_into kind_of rows s q = list_any (leads q s) rows || (same_id q s && is_kept (kind_of q))

-- of a split its successors, of a merge its predecessors
abbrev pub is_other : (List ℕ → Option Kind) → List Row → Group → List ℕ → Bool
is_other kind_of rows g q =
    cond g.merge (leads_into kind_of rows g.id q) (list_any (leads g.id q) rows)

-- a group by its kind and its identifier
abbrev pub group_name : Group → Bool × List ℕ
group_name g = (g.merge, g.id)

abbrev pub as_split : List ℕ → Bool × List ℕ
as_split id = (false, id)

abbrev pub as_merge : List ℕ → Bool × List ℕ
as_merge id = (true, id)

-- the exact splits ascending by their old identifiers, then the exact merges ascending by their
-- successors; the others of each ascending
pub record AreExactGroups (kind_of : List ℕ → Option Kind) (rows : List Row) (gs : List Group) :
    Type 0 where
  pub splits : List (List ℕ)
  pub merges : List (List ℕ)
  pub listed : map group_name gs ≡ map as_split splits ++ map as_merge merges
  pub splits_ascend : IsAscending splits
  pub merges_ascend : IsAscending merges
  pub splits_are : (id : List ℕ) → has_id splits id ≡ is_exact_split kind_of rows id
  pub merges_are : (s : List ℕ) → has_id merges s ≡ is_exact_merge kind_of rows s
  pub others_ascend : All (λ (g : Group). IsAscending g.others) gs
  pub others : All (λ (g : Group). (q : List ℕ) → has_id g.others q ≡ is_other kind_of rows g q) gs
