-- Short lists: at most one item has a property, and which one has it.
use Rattle.std.proofs.Common.{◌≡◌, ℕ, zero, suc, List, [], ◌∷◌, Some, refl, sym, ap, subst, slice_get, All, Any}
use Rattle.std.proofs.lemmas.Option.{none-some, same_Some}
use Rattle.lpis_edge_sums.specs.Counting.{AtMostOne}
use Rattle.lpis_edge_sums.proofs.Shared.{all_at, any_found}

-- of no items at most one has a property
pub at_most_nil : {A : Type 0} (P : A → Type 0) → AtMostOne P []
at_most_nil P i j a b e f p q = absurd (none-some a e)

-- one more item, after which none has the property where it has
pub at_most_cons : {A : Type 0} (P : A → Type 0) (x : A) (xs : List A) → (P x → All (λ y. P y → ⊥) xs) → AtMostOne P xs → AtMostOne P (x ∷ xs)
at_most_cons P x xs lone more zero zero a b e f p q = refl
at_most_cons P x xs lone more zero (suc j) a b e f p q = absurd (all_at (λ y. P y → ⊥) xs j b f (lone (subst P (sym (same_Some x a e)) p)) q)
at_most_cons P x xs lone more (suc i) zero a b e f p q = absurd (all_at (λ y. P y → ⊥) xs i a e (lone (subst P (sym (same_Some x b f)) q)) p)
at_most_cons P x xs lone more (suc i) (suc j) a b e f p q = ap suc (more i j a b e f p q)

-- an item of a list of one has the property, so that one has it
pub any_of_one : {A : Type 0} (P : A → Type 0) (x : A) (C : Type 0) → (P x → C) → Any P (x ∷ []) → C
any_of_one {A} P x C f any = let o = any_found P (x ∷ []) any in by o.index o.item o.at o.has
  where
    by : (k : ℕ) (y : A) → slice_get (x ∷ []) k ≡ Some y → P y → C
    by zero y e p = f (subst P (sym (same_Some x y e)) p)
    by (suc k) y e p = absurd (none-some y e)

-- an item of a list of two has the property, so that the one has it or the other
pub any_of_two : {A : Type 0} (P : A → Type 0) (x z : A) (C : Type 0) → (P x → C) → (P z → C) → Any P (x ∷ z ∷ []) → C
any_of_two {A} P x z C f g any = let o = any_found P (x ∷ z ∷ []) any in by o.index o.item o.at o.has
  where
    by : (k : ℕ) (y : A) → slice_get (x ∷ z ∷ []) k ≡ Some y → P y → C
    by zero y e p = f (subst P (sym (same_Some x y e)) p)
    by (suc zero) y e p = g (subst P (sym (same_Some z y e)) p)
    by (suc (suc k)) y e p = absurd (none-some y e)
