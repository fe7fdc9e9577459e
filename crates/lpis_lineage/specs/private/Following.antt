-- What following the rows keeps.
use Rattle.std.specs.Prelude.{◌≡◌, ◌<◌, ◌++◌, ◌∷◌, ◌==◌, [], true, false, get_or, length}
use Rattle.std.specs.Prelude.{Bool, ℕ, List, Option, None, Some, IfSome}
use Rattle.std.specs.Int.{bit_at}
use Rattle.std.specs.List.{list_any}
use Rattle.lpis_lineage.specs.declared.row.Row.{Row}
use Rattle.lpis_lineage.specs.Lineage.{is_row_of, is_this, names_successor}
use Rattle.lpis_lineage.specs.Descendants.{Chain}

-- the test passes the identifiers that chains reach
pub record Reaches (test : List ℕ → Bool) (rows : List Row) (id : List ℕ) : Type 0 where
  pub sound : (q : List ℕ) → test q ≡ true → Chain rows id q
  pub whole : (q : List ℕ) → Chain rows id q → test q ≡ true

-- the askers of an identifier as bits: none where it is not reached
abbrev pub askers_in : Option ℕ → ℕ
askers_in None = 0
askers_in (Some askers) = askers

-- the asker at a place is one of them
abbrev pub has_asker : ℕ → Option ℕ → Bool
has_asker j askers = bit_at (askers_in askers) j == 1

-- each identifier asked reaches by chains what has it as an asker
pub record AllReach (reached : List ℕ → Option ℕ) (rows : List Row)
    (asked : List (Option (List ℕ))) : Type 0 where
  pub each : (j : ℕ) → j < length asked
      → IfSome (get_or asked j None) (Reaches (λ q. has_asker j (reached q)) rows)

-- an identifier with its askers before these, where it is reached
abbrev pub with_asked : Option ℕ → List ℕ → List (List ℕ × ℕ) → List (List ℕ × ℕ)
with_asked None id rest = rest
with_asked (Some askers) id rest = (id, askers) ∷ rest

-- those of these identifiers that are reached, with their askers
abbrev pub with_askers : (List ℕ → Option ℕ) → List (List ℕ) → List (List ℕ × ℕ)
with_askers reached [] = []
with_askers reached (id ∷ ids) = with_asked (reached id) id (with_askers reached ids)

-- the row's successor has no row of its own among those before, nor is it its own old identifier
abbrev pub IsFreshRow : List Row → Row → Type 0
IsFreshRow before row = (s : List ℕ) → is_this s row.new ≡ true
    → list_any (is_row_of s) (before ++ row ∷ []) ≡ false

-- the rows' successors have no row of their own among these and those before
abbrev pub AreFreshRows : List Row → List Row → Type 0
AreFreshRows before rows = (s : List ℕ) → list_any (names_successor s) rows ≡ true
    → list_any (is_row_of s) (before ++ rows) ≡ false
