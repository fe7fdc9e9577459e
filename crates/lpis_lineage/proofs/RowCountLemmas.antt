-- How many rows a test picks, and how many end an identifier.
use Rattle.std.proofs.Common.{◌≡◌, ◌∙◌, ◌≤◌, ◌+◌, inl, inr, refl, sym, ap, arith, suc, ℕ, List, [], ◌∷◌, ◌++◌, length, Bool, true, false, Option, None, Some, cond, ◌&&◌, ◌||◌, not, is_some, filter}
use Rattle.lpis_lineage.proofs.Common.{list_any, cases_Bool, Row, is_ended, succeeded, is_row_of, same_row, IsAnswered}
use Rattle.lpis_lineage.specs.Lineage.{same_new}
use Rattle.lpis_lineage.specs.Lawful.{endings}

-- a test picks from two lists, one behind the other, as many as from the two added up
pub filter-append : {A : Type 0} (p : A → Bool) (xs ys : List A) → length (filter p (xs ++ ys)) ≡ length (filter p xs) + length (filter p ys)
filter-append p [] ys = omega arith
filter-append p (x ∷ xs) ys = by-test p x xs ys (p x) refl (filter-append p xs ys) where
  by-test : {A : Type 0} (p : A → Bool) (x : A) (xs ys : List A) (b : Bool) → b ≡ p x → length (filter p (xs ++ ys))
      ≡ length (filter p xs) + length (filter p ys) → length (cond b (x ∷ filter p (xs ++ ys)) (filter p (xs ++ ys)))
      ≡ length (cond b (x ∷ filter p xs) (filter p xs)) + length (filter p ys)
  by-test p x xs ys true e ih = omega (arith, ih)
  by-test p x xs ys false e ih = ih

-- where no element passes, none is picked
pub filter-none : {A : Type 0} (p : A → Bool) (xs : List A) → list_any p xs ≡ false → length (filter p xs) ≡ 0
filter-none p [] e = refl
filter-none p (x ∷ xs) e = by-test p x xs (p x) (filter-none p xs) e where
  by-test : {A : Type 0} (p : A → Bool) (x : A) (xs : List A) (b : Bool)
      → (list_any p xs ≡ false → length (filter p xs) ≡ 0) → (b || list_any p xs) ≡ false
      → length (cond b (x ∷ filter p xs) (filter p xs)) ≡ 0
  by-test p x xs true ih e = absurd cc
  by-test p x xs false ih e = ih e

-- where some element passes, at least one is picked
pub filter-some : {A : Type 0} (p : A → Bool) (xs : List A) → list_any p xs ≡ true → 1 ≤ length (filter p xs)
filter-some p [] e = cc e
filter-some p (x ∷ xs) e = by-test p x xs (p x) (filter-some p xs) e where
  by-test : {A : Type 0} (p : A → Bool) (x : A) (xs : List A) (b : Bool)
      → (list_any p xs ≡ true → 1 ≤ length (filter p xs)) → (b || list_any p xs) ≡ true
      → 1 ≤ length (cond b (x ∷ filter p xs) (filter p xs))
  by-test p x xs true ih e = omega arith
  by-test p x xs false ih e = ih e

-- endings of one identifier are equal rows
pub one-ending : (rows : List Row) (id : List ℕ) → ((row : Row) → length (filter (same_row row) rows) ≤ 1) → endings rows id ≤ 1
one-ending rows id once = let same = filter-alike _ (same_row (record { old = id; new = None; exact = false })) rows
    (λ r. ap (λ (b : Bool). is_row_of id r && b) (no-successor r.new)) in let few = once (record { old = id; new = None; exact = false }) in
    omega (arith, same, few)
  where
    no-successor : (o : Option (List ℕ)) → not (is_some o) ≡ same_new None o
    no-successor None = refl
    no-successor (Some s) = refl

    filter-alike : (p q : Row → Bool) (rs : List Row) → ((r : Row) → p r ≡ q r) → length (filter p rs) ≡ length (filter q rs)
    filter-alike p q [] alike = refl
    filter-alike p q (r ∷ rs) alike = by-test (p r) (q r) (alike r) (filter-alike p q rs alike)
      where
        by-test : (a b : Bool) → a ≡ b → length (filter p rs) ≡ length (filter q rs) → length (cond a (r ∷ filter p rs) (filter p rs)) ≡ length (cond b (r ∷ filter q rs) (filter q rs))
        by-test true true e more = ap suc more
        by-test false false e more = more
        by-test true false e more = absurd (cc e)
        by-test false true e more = absurd (cc e)

-- what has an ending has a row that is one
ended-counted : (rows : List Row) (id : List ℕ) → is_ended rows id ≡ true → endings rows id ≡ 0 → false ≡ true
ended-counted rows id e none = absurd (let some = filter-some _ rows e in omega (arith, some, none))

-- an identifier with one ending is ended
pub counted-ended : (rows : List Row) (id : List ℕ) → endings rows id ≡ 1 → is_ended rows id ≡ true
counted-ended rows id one = elim (cases_Bool (is_ended rows id)) as (λ _. is_ended rows id ≡ true) [ inl e ↦ e | inr n ↦ absurd (let none = filter-none _ rows n in omega (arith, one, none)) ]

-- an identifier that the rows answer has not both an ending and a successor
pub from-answered : (rows : List Row) (id : List ℕ) → IsAnswered rows id → is_ended rows id ≡ true → succeeded rows id ≡ true → false ≡ true
from-answered rows id (inl l) e s = sym l.1 ∙ s
from-answered rows id (inr r) e s = ended-counted rows id e r.0
