-- Rows of a country by their numbers.
use Rattle.std.proofs.Common.{◌≡◌, ◌<◌, ◌≤◌, ◌⊎◌, ◌-◌, ◌+◌, ◌∙◌, ◌∷◌, [], refl, sym, ap, ap₂, inl, inr, arith, ℕ, List, Option, None, Some, cond, drop, get_or, leb, length, map, min}
use Rattle.std.proofs.Common.{drop_of_length-le}
use Rattle.std.proofs.lemmas.Bool.{cases_lt, cond-false, cond-true, le-leb, lt-leb}
use Rattle.std.proofs.lemmas.List.{drop_more, get_or-map, length-map}
use Rattle.lpis_lineage.specs.declared.row.Row.{Row}
use Rattle.lpis_run_publish_country.specs.CountryLineage.{row_place}

-- the number of rows of the next table
next_count : (tables : List (List Row)) (counts : List ℕ) (i : ℕ) → counts ≡ map (λ (rows : List Row). length rows) tables → i < length counts
    → (get_or counts i 0 ≡ length (get_or tables i [])) × (i < length tables)
next_count tables counts i e lt =
    let within : i < length tables = omega (arith, lt, ap length e, length-map tables (λ (rows : List Row). length rows)) in
    (ap (λ (ns : List ℕ). get_or ns i 0) e ∙ get_or-map (λ (rows : List Row). length rows) tables i [] 0 within, within)

-- the place of a row behind the tables before
row_next : (names : List (List ℕ)) (tables : List (List Row)) (i left : ℕ) → i < length names → i < length tables
    → row_place (drop i names) (drop i tables) left
    ≡ cond (leb left (length (get_or tables i []))) (Some (get_or names i [], left)) (row_place (drop (i + 1) names) (drop (i + 1) tables) (left - length (get_or tables i [])))
row_next names tables i left a b = ap₂ (λ (ks : List (List ℕ)) (ts : List (List Row)). row_place ks ts left) (drop_more names i [] a) (drop_more tables i [] b)

-- a row of the next table
pub row_here : (names : List (List ℕ)) (tables : List (List Row)) (counts : List ℕ) (i left : ℕ) → counts ≡ map (λ (rows : List Row). length rows) tables → i < length names → i < length counts
    → left ≤ get_or counts i 0 → row_place (drop i names) (drop i tables) left ≡ Some (get_or names i [], left)
row_here names tables counts i left e a b le =
    let next = next_count tables counts i e b in
    row_next names tables i left a next.1 ∙ cond-true _ _ _ (le-leb left (length (get_or tables i [])) (omega (arith, le, next.0)))

-- a row behind the next table
pub row_behind : (names : List (List ℕ)) (tables : List (List Row)) (counts : List ℕ) (i left : ℕ) → counts ≡ map (λ (rows : List Row). length rows) tables → i < length names → i < length counts
    → get_or counts i 0 < left → row_place (drop i names) (drop i tables) left ≡ row_place (drop (i + 1) names) (drop (i + 1) tables) (left - get_or counts i 0)
row_behind names tables counts i left e a b gt =
    let next = next_count tables counts i e b in
    row_next names tables i left a next.1 ∙ cond-false _ _ _ (lt-leb left (length (get_or tables i [])) (omega (arith, gt, next.0)))
    ∙ ap (λ (n : ℕ). row_place (drop (i + 1) names) (drop (i + 1) tables) (left - n)) (sym next.0)

-- no table is left
pub row_nowhere : (names : List (List ℕ)) (tables : List (List Row)) (i left : ℕ) → (length names ≤ i) ⊎ (length tables ≤ i) → row_place (drop i names) (drop i tables) left ≡ None
row_nowhere names tables i left (inl none) = ap (λ (ks : List (List ℕ)). row_place ks (drop i tables) left) (drop_of_length-le names none)
row_nowhere names tables i left (inr none) = ap (λ (ts : List (List Row)). row_place (drop i names) ts left) (drop_of_length-le tables none) ∙ no-table (drop i names)
  where
    no-table : (ks : List (List ℕ)) → row_place ks [] left ≡ None
    no-table [] = refl
    no-table (k ∷ ks) = refl

-- ---- the folders and the tables that are passed
-- a number below that of both
pub in_both : (i end a b : ℕ) → i < end → end ≡ min a b → (i < a) × (i < b)
in_both i end a b lt is = (omega (arith, lt, is), omega (arith, lt, is))

-- one that is not
pub past_one : (i end a b m n : ℕ) → end ≤ i → end ≡ min a b → m ≡ a → n ≡ b → (m ≤ i) ⊎ (n ≤ i)
past_one i end a b m n le is of_a of_b = elim (cases_lt a b) [
  | inl lt ↦ inl (omega (arith, le, is, of_a, lt))
  | inr ge ↦ inr (omega (arith, le, is, of_b, ge))
]

-- the place that was found
pub place_is : (name other : List ℕ) (n : ℕ) (place : Option (List ℕ × ℕ)) → name ≡ other → place ≡ Some (other, n) → Some (name, n) ≡ place
place_is name other n place e is = ap (λ (x : List ℕ). Some (x, n)) e ∙ sym is
