-- Lists of the identifiers that pass a test.
use Rattle.std.proofs.Common.{◌≡◌, ◌∙◌, refl, sym, ap, ℕ, List, [], ◌∷◌, Bool, true, false, cond, ◌&&◌, ◌||◌, filter, nat_cmp, Less}
use Rattle.lpis_lineage.proofs.Common.{slice_cmp, has_id, same_id}
use Rattle.std.proofs.Math.Bool.{and-false}
use Rattle.std.specs.List.{AllByRecursion}
use Rattle.std.specs.List.Sorted.{IsStrictlySortedBy}
use Rattle.lpis_lineage.specs.Order.{IsAscending}
use Rattle.lpis_lineage.proofs.IdentifierLemmas.{same-exact}

-- what passes is among these and passes
pub has-filter : (p : List ℕ → Bool) (ids : List (List ℕ)) (q : List ℕ) → has_id (filter p ids) q ≡ (has_id ids q && p q)
has-filter p [] q = refl
has-filter p (x ∷ xs) q = by (p x) refl (same_id q x) refl (has-filter p xs q) where
  by : (b : Bool) → b ≡ p x → (s : Bool) → s ≡ same_id q x → has_id (filter p xs) q ≡ (has_id xs q && p q) → has_id (cond b (x ∷ filter p xs) (filter p xs)) q ≡ ((s || has_id xs q) && p q)
  by true eb true es ih = ap (λ (t : Bool). t || has_id (filter p xs) q) (sym es) ∙ eb ∙ ap p (sym (same-exact q x (sym es)))
  by true eb false es ih = ap (λ (t : Bool). t || has_id (filter p xs) q) (sym es) ∙ ih
  by false eb true es ih = let f : p q ≡ false = ap p (same-exact q x (sym es)) ∙ sym eb in ih ∙ ap (λ (t : Bool). has_id xs q && t) f ∙ and-false (has_id xs q) ∙ sym f
  by false eb false es ih = ih

-- tests that agree pass the same
pub filter-same : (p q : List ℕ → Bool) (ids : List (List ℕ)) → ((id : List ℕ) → p id ≡ q id) → filter p ids ≡ filter q ids
filter-same p q [] e = refl
filter-same p q (x ∷ xs) e = ap (λ (b : Bool). cond b (x ∷ filter p xs) (filter p xs)) (e x) ∙ ap (λ (l : List (List ℕ)). cond (q x) (x ∷ l) l) (filter-same p q xs e)

all-filter : (P : List ℕ → Type 0) (p : List ℕ → Bool) (ids : List (List ℕ)) → AllByRecursion P ids → AllByRecursion P (filter p ids)
all-filter P p [] a = a
all-filter P p (x ∷ xs) a = by (p x) (all-filter P p xs a.1) where
  by : (b : Bool) → AllByRecursion P (filter p xs) → AllByRecursion P (cond b (x ∷ filter p xs) (filter p xs))
  by true ih = (a.0, ih)
  by false ih = ih

ascending-pick : (b : Bool) (x : List ℕ) (ys : List (List ℕ)) → AllByRecursion (λ y. slice_cmp nat_cmp x y ≡ Less) ys → IsAscending ys → IsAscending (cond b (x ∷ ys) ys)
unfolding IsStrictlySortedBy
ascending-pick true x ys a s = (a, s)
ascending-pick false x ys a s = s

-- what passes of ascending identifiers ascends
pub ascending-filter : (p : List ℕ → Bool) (ids : List (List ℕ)) → IsAscending ids → IsAscending (filter p ids)
unfolding IsStrictlySortedBy
ascending-filter p [] a = a
ascending-filter p (x ∷ xs) a = ascending-pick (p x) x (filter p xs) (all-filter (λ y. slice_cmp nat_cmp x y ≡ Less) p xs a.0) (ascending-filter p xs a.1)
