-- The kinds of the identifiers of the last release.
use Rattle.std.specs.Prelude.{◌&&◌, ◌+◌, Bool, true, false, cond, nat_lt, ℕ, List, [], ◌∷◌, length}
use Rattle.std.specs.Prelude.{Option, None, Some}
use Rattle.std.specs.List.{list_any, filter}
use Rattle.lpis_lineage.specs.declared.row.Row.{Row}
use Rattle.lpis_lineage.specs.declared.kind.Kind.{Kind}
use Rattle.lpis_lineage.specs.declared.kind.Kind.TheVariants.{Kept, Split, Merged, Replaced}
use Rattle.lpis_lineage.specs.declared.kind.Kind.TheVariants.{Redrawn, Ended}
use Rattle.lpis_tables.specs.Ids.{has_id, same_id}
use Rattle.lpis_lineage.specs.Lineage.{is_row_of, is_ended}

-- the identifier where there is one, before others
abbrev pub with_some : Option (List ℕ) → List (List ℕ) → List (List ℕ)
with_some None others = others
with_some (Some s) others = s ∷ others

-- the successors that rows name, in the rows' order
abbrev pub named_successors : List Row → List (List ℕ)
named_successors [] = []
named_successors (r ∷ rs) = with_some r.new (named_successors rs)

-- how often a list has an identifier
abbrev pub id_times : List (List ℕ) → List ℕ → ℕ
id_times ids id = length (filter (same_id id) ids)

-- the successors of an identifier
abbrev pub successors : List Row → List ℕ → List (List ℕ)
successors rows id = named_successors (filter (is_row_of id) rows)

-- how many predecessors a successor has: the rows that name it, and itself where it is kept
abbrev pub predecessors : List (List ℕ) → List (List ℕ) → List Row → List ℕ → ℕ
predecessors last live rows s = id_times (named_successors rows) s
    + cond (has_id last s && has_id live s) 1 0

-- by whether there are several successors, and whether one of them has several predecessors
abbrev pub by_counts : Bool → Bool → Kind
by_counts false false = Replaced
by_counts false true = Merged
by_counts true false = Split
by_counts true true = Redrawn

-- the kind of an identifier, where it is live in the last release
abbrev pub kind : List (List ℕ) → List (List ℕ) → List Row → List ℕ → Option Kind
kind last live rows id =
    cond (has_id last id) (Some (cond (has_id live id) Kept (cond (is_ended rows id) Ended
    (by_counts (nat_lt 1 (length (successors rows id)))
    (list_any (λ s. nat_lt 1 (predecessors last live rows s)) (successors rows id)))))) None
