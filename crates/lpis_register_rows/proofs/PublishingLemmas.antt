-- Publishing: what the tables say after it.
use Rattle.std.proofs.Common.{◌≡◌, ◌∙◌, ◌≤◌, refl, sym, ap, arith, ℕ, suc, ℤ, pos, List, [], ◌∷◌, ◌++◌, Bool, true, false, cond, length, Option, None, Some}
use Rattle.std.proofs.Common.{◌||◌, is_some, filter, is_eq, nat_cmp, Less}
use Rattle.lpis_register_rows.proofs.Common.{AllByRecursion, slice_cmp, has_id, same_id, Entry}
use Rattle.lpis_register_rows.proofs.Common.{holds, last_live, first_held, last_held, span_of}
use Rattle.lpis_register_rows.proofs.Common.{same-exact, filter-none}
use Rattle.lpis_register_rows.proofs.Common.{years_of}
use Rattle.std.specs.List.Sorted.{IsStrictlySortedBy}
use Rattle.lpis_lineage.specs.Order.{IsAscending}
use Rattle.lpis_lineage.specs.Spans.{span_between}
use Rattle.lpis_lineage.proofs.Shared.{same-by_order, first-index}

-- ---- years and rows of one release more

-- the years of a history with one release more are its years, and then that of the release
pub years-of-append : (h : List Entry) (e : Entry) → years_of (h ++ e ∷ []) ≡ years_of h ++ pos e.year ∷ []
years-of-append [] e = refl
years-of-append (x ∷ h) e = ap (λ (l : List ℤ). pos x.year ∷ l) (years-of-append h e)

-- ---- identifiers of one release more

-- what has a span is in some release
pub span-in-release : (h : List Entry) (id : List ℕ) → is_some (span_of h id) ≡ true → (i : ℕ) × (holds h i id ≡ true)
span-in-release h id s = by (first_held h id) refl s where
  by : (f : Option ℕ) → f ≡ first_held h id → is_some (span_between f (last_held h id) (has_id (last_live h) id)) ≡ true → (i : ℕ) × (holds h i id ≡ true)
  by None e s = absurd cc
  by (Some y) e s = let p = first-index h id y (sym e) in (p.0, p.1)

-- ---- spans of one release more

-- two lists of one length remain so where one condition puts an element before each
pub same-length : {A B : Type 0} (b : Bool) (x : A) (y : B) (xs : List A) (ys : List B) → length xs ≡ length ys → length (cond b (x ∷ xs) xs) ≡ length (cond b (y ∷ ys) ys)
same-length true x y xs ys e = ap suc e
same-length false x y xs ys e = e

-- ascending identifiers stand once
none-above : (id : List ℕ) (ids : List (List ℕ)) → AllByRecursion (λ y. slice_cmp nat_cmp id y ≡ Less) ids → has_id ids id ≡ false
none-above id [] all = refl
none-above id (x ∷ xs) all = by (none-above id xs all.1) (same_id id x) refl where
  by : has_id xs id ≡ false → (b : Bool) → b ≡ same_id id x → (b || has_id xs id) ≡ false
  by ih true e = absurd (let s = same-by_order id x in let n = all.0 in let m = ap is_eq n in cc)
  by ih false e = ih

-- no identifier is twice in a list of identifiers that ascends
pub once-ascending : (id : List ℕ) (ids : List (List ℕ)) → IsAscending ids → length (filter (same_id id) ids) ≤ 1
unfolding IsStrictlySortedBy
once-ascending id [] a = omega arith
once-ascending id (x ∷ xs) a = by (same_id id x) refl (once-ascending id xs a.1) where
  by : (b : Bool) → b ≡ same_id id x → length (filter (same_id id) xs) ≤ 1 → length (cond b (x ∷ filter (same_id id) xs) (filter (same_id id) xs)) ≤ 1
  by true e ih = let z = filter-none (same_id id) xs (ap (has_id xs) (same-exact id x (sym e)) ∙ none-above x xs a.0) in omega (arith, z)
  by false e ih = ih
