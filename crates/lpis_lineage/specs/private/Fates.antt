-- What a second pass over the rows keeps for the kinds.
use Rattle.std.specs.Prelude.{◌≡◌, ◌&&◌, Bool, false, cond, nat_lt, is_some, ℕ, List, [], ◌∷◌}
use Rattle.std.specs.Prelude.{Option, None, Some}
use Rattle.std.specs.List.{list_any}
use Rattle.lpis_lineage.specs.declared.row.Row.{Row}
use Rattle.lpis_lineage.specs.declared.fates.Fates.{Fates}
use Rattle.lpis_tables.specs.Ids.{has_id}
use Rattle.lpis_lineage.specs.Lineage.{is_row_of, is_ended}
use Rattle.lpis_lineage.specs.Kinds.{predecessors}
use Rattle.lpis_lineage.specs.private.Tally.{IsTally}

-- the old identifiers of the rows with a successor
abbrev pub olds : List Row → List (List ℕ)
olds [] = []
olds (r ∷ rs) = cond (is_some r.new) (r.old ∷ olds rs) (olds rs)

-- a test of the successor, where there is one
abbrev pub on_some : (List ℕ → Bool) → Option (List ℕ) → Bool
on_some p None = false
on_some p (Some s) = p s

-- a successor has several predecessors
abbrev pub is_shared : List (List ℕ) → List (List ℕ) → List Row → List ℕ → Bool
is_shared last live all s = nat_lt 1 (predecessors last live all s)

pub record AreFates (last live : List (List ℕ)) (all : List Row) (f : Fates) (rows : List Row) :
    Type 0 where
  pub ended_are : (q : List ℕ) → has_id f.ended q ≡ is_ended rows q
  pub olds_are : IsTally f.olds (olds rows)
  pub shared_are : (q : List ℕ) → has_id f.shared q ≡ list_any
      (λ r. is_row_of q r && on_some (is_shared last live all) r.new) rows
