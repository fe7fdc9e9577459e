-- Rows of lineage with their years and positions.
use Rattle.std.proofs.Common.{◌≡◌, ◌+◌, refl, ap, ap₂, sym, subst, ℕ, ℤ, pos, List, [], ◌∷◌, ◌++◌, true, Option, None, Some}
use Rattle.lpis_register_rows.proofs.Common.{AllByRecursion, list_any, or_left, or_right, is_id, Entry, Row, entry_at, names_successor, successor_text, IsKeptHistory, years_of, HasText, KnownLine}
use Rattle.lpis_register_rows.proofs.Common.{known_from, known_of}
use Rattle.lpis_lineage.specs.Lineage.{is_this}
use Rattle.lpis_register_rows.proofs.AscendingLemmas.{all-append, all-map, number_below, below-alone}
use Rattle.lpis_register_rows.proofs.YearLemmas.{all-entries}

rows-have-texts : (rows : List Row) → ((id : List ℕ) → list_any (names_successor id) rows ≡ true → is_id id ≡ true) → AllByRecursion HasText rows
rows-have-texts [] f = tt
rows-have-texts (r ∷ rs) f = (
  λ e. let n : names_successor [] r ≡ true = ap (is_this []) e in let i =
      f [] (or_left (names_successor [] r) (list_any (names_successor []) rs) n) in cc,
  rows-have-texts rs (λ id n. f id (or_right (names_successor id r) (list_any (names_successor id) rs) n)),
)

-- in a history that tables may state, no row has a successor with an empty text
pub have-texts : (h : List Entry) → IsKeptHistory h → AllByRecursion (λ e. AllByRecursion HasText e.rows) h
have-texts h kept = all-entries (λ e. AllByRecursion HasText e.rows) h (λ i lt. rows-have-texts (entry_at h i).rows (λ id n. kept.ids id i (kept.lawful.successors id i n)))

-- successors with the same text are the same, where neither is an empty identifier
pub same-text : (a b : Option (List ℕ)) → (a ≡ Some [] → ⊥) → (b ≡ Some [] → ⊥) → successor_text a ≡ successor_text b → a ≡ b
same-text None None f g e = refl
same-text None (Some s) f g e = absurd (g (ap Some (sym e)))
same-text (Some s) None f g e = absurd (f (ap Some e))
same-text (Some s) (Some t) f g e = ap Some e

-- ---- order

from-year : (y : ℤ) (n : ℕ) (rs : List Row) → AllByRecursion (λ k. k.year ≡ y) (known_from y n rs)
from-year y n [] = tt
from-year y n (r ∷ rs) = (refl, from-year y (n + 1) rs)

-- a year below all years of a history is below those of all its lines
pub known-above : (y : ℤ) (h : List Entry) → AllByRecursion (number_below y) (years_of h) → AllByRecursion (λ k. number_below y k.year) (known_of h)
known-above y [] a = tt
known-above y (x ∷ h) a = all-append (λ k. number_below y k.year) (known_from (pos x.year) 0 x.rows) (known_of h)
    (all-map (λ k. k.year ≡ pos x.year) (λ k. number_below y k.year) (known_from (pos x.year) 0 x.rows) (λ k e. subst (number_below y) (sym e) a.0) (from-year (pos x.year) 0 x.rows))
    (known-above y h a.1)

abbrev row_in : Row → List KnownLine → Row
row_in d [] = d
row_in d (k ∷ ks) = k.row

abbrev rest_of : List KnownLine → List KnownLine
rest_of [] = []
rest_of (k ∷ ks) = ks

-- the rows of a year before those of later ones
pub rows-apart : (y n : ℕ) (rs qs : List Row) (ks ls : List KnownLine) → AllByRecursion (λ k. number_below (pos y) k.year) ks
    → AllByRecursion (λ k. number_below (pos y) k.year) ls → known_from (pos y) n rs ++ ks ≡ known_from (pos y) n qs ++ ls → (rs ≡ qs) × (ks ≡ ls)
rows-apart y n [] [] ks ls a b e = (refl, e)
rows-apart y n [] (q ∷ qs) ks ls a b e = absurd (let all = subst (AllByRecursion (λ k. number_below (pos y) k.year)) e a in below-alone (pos y) (pos y) all.0 all.0)
rows-apart y n (r ∷ rs) [] ks ls a b e = absurd (let all = subst (AllByRecursion (λ k. number_below (pos y) k.year)) (sym e) b in below-alone (pos y) (pos y) all.0 all.0)
rows-apart y n (r ∷ rs) (q ∷ qs) ks ls a b e =
    let one : r ≡ q = ap (row_in r) e in
    let more = rows-apart y (n + 1) rs qs ks ls a b (ap rest_of e) in
    (ap₂ (λ (x : Row) (xs : List Row). x ∷ xs) one more.0, more.1)
