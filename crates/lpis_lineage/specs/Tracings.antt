-- What is traced of several identifiers at once.
use Rattle.std.specs.Prelude.{◌≡◌, ◌<◌, ◌==◌, ◌↔◌, [], ◌∷◌, true, cond, get_or, length, ℕ, List}
use Rattle.std.specs.Prelude.{Option, None, IfSome}
use Rattle.std.specs.Int.{bit_at}
use Rattle.lpis_tables.specs.Ids.{has_id}
use Rattle.lpis_lineage.specs.declared.row.Entry.{Entry}
use Rattle.lpis_lineage.specs.Descendants.{IsDescendant}
use Rattle.lpis_lineage.specs.Order.{IsAscending}

-- the most identifiers that are traced at once
abbrev pub most_asked : ℕ
most_asked = 128

-- of identifiers with their askers, those that the asker at a place reaches: the place's bit is set
abbrev pub reached_by : ℕ → List (List ℕ × ℕ) → List (List ℕ)
reached_by asker [] = []
reached_by asker (p ∷ ps) =
    cond (bit_at p.1 asker == 1) (p.0 ∷ reached_by asker ps) (reached_by asker ps)

-- these are the live descendants of an identifier, ascending, each once
pub record AreDescendants (h : List Entry) (found : List (List ℕ)) (id : List ℕ) : Type 0 where
  pub members : (q : List ℕ) → (has_id found q ≡ true) ↔ IsDescendant h id q
  pub ascend : IsAscending found

-- each identifier asked reaches its live descendants
abbrev pub AreTraced : List Entry → List (Option (List ℕ)) → List (List ℕ × ℕ) → Type 0
AreTraced h asked found = (j : ℕ) → j < length asked
    → IfSome (get_or asked j None) (AreDescendants h (reached_by j found))
