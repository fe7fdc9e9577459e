-- What a release changes: what became of each identifier of the last one.
use Rattle.std.specs.Prelude.{◌≡◌, not, ℕ, List, Option}
use Rattle.std.specs.List.{filter}
use Rattle.std.specs.Map.{lookup}
use Rattle.lpis_tables.specs.Ids.{has_id, same_id}
use Rattle.lpis_lineage.specs.declared.kind.Kind.{Kind}
use Rattle.lpis_lineage.specs.declared.row.Row.{Row}
use Rattle.lpis_lineage.specs.Kinds.{kind}

-- the identifiers of the last release that are not live in the new one, in their order
abbrev pub dropped : List (List ℕ) → List (List ℕ) → List (List ℕ)
dropped last live = filter (λ id. not (has_id live id)) last

-- a change: the identifiers of the last release with their kinds, the dropped ones, and the rows
pub record Changes : Type 0 where
  pub kinds : List (List ℕ × Kind)
  pub dropped_ids : List (List ℕ)
  pub rows : List Row

-- the kind of an identifier in a change, where it has one
abbrev pub kind_at : Changes → List ℕ → Option Kind
kind_at c id = lookup (same_id id) c.kinds

-- the change from the one set of identifiers to the other by these rows
pub record IsChange (last live : List (List ℕ)) (rows : List Row) (c : Changes) : Type 0 where
  pub kinds_are : (id : List ℕ) → kind_at c id ≡ kind last live rows id
  pub dropped_are : c.dropped_ids ≡ dropped last live
  pub rows_are : c.rows ≡ rows
