-- Identifiers less the repeats.
use Rattle.std.proofs.Common.{◌≡◌, refl, sym, ap, arith, ℕ, suc, List, [], ◌∷◌, Bool, true, false, ◌||◌, Contains}
use Rattle.lpis_register_rows.proofs.Common.{AllByRecursion, All-from_recursion, both_ways, or_right, has_id, same_id, same-exact, same-refl}
use Rattle.std.specs.List.{dedup}
use Rattle.std.specs.Cmp.Lexicographic.{nat_list_eq_equiv}
use Rattle.std.proofs.lemmas.List.Elements.{All-contains}
use Rattle.std.proofs.lemmas.List.Kept.{Contains-dedup, Contains-from_dedup}

has-contained : (xs : List (List ℕ)) (q : List ℕ) → Contains xs q → has_id xs q ≡ true
has-contained xs q there = All-contains (λ z. has_id xs z ≡ true) xs q (All-from_recursion (λ z. has_id xs z ≡ true) xs (among xs (λ z h. h))) there where
  among : (ys : List (List ℕ)) → ((z : List ℕ) → has_id ys z ≡ true → has_id xs z ≡ true) → AllByRecursion (λ z. has_id xs z ≡ true) ys
  among [] f = tt
  among (y ∷ ys) f = (f y (ap (λ (b : Bool). b || has_id ys y) (same-refl y)), among ys (λ z h. f z (or_right (same_id z y) (has_id ys z) h)))

contained-has : (xs : List (List ℕ)) (q : List ℕ) → has_id xs q ≡ true → Contains xs q
contained-has [] q h = cc h
contained-has (x ∷ xs) q h = by (contained-has xs q) (same_id q x) refl h where
  by : (has_id xs q ≡ true → Contains xs q) → (b : Bool) → b ≡ same_id q x → (b || has_id xs q) ≡ true → Contains (x ∷ xs) q
  by ih true e h = (0, omega arith, sym (same-exact q x (sym e)))
  by ih false e h = let c = ih h in (suc c.0, (let lt = c.1 in omega (arith, lt)), c.2)

-- a list has the same identifiers once repeats are dropped
pub has-dedup : (xs : List (List ℕ)) (q : List ℕ) → has_id (dedup same_id xs) q ≡ has_id xs q
has-dedup xs q = both_ways (has_id (dedup same_id xs) q) (has_id xs q)
    (λ h. has-contained xs q (Contains-from_dedup same_id xs q (contained-has (dedup same_id xs) q h)))
    (λ h. has-contained (dedup same_id xs) q (Contains-dedup nat_list_eq_equiv same-exact xs q (contained-has xs q h)))
