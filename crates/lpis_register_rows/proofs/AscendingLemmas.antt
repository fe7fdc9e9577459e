-- Lists that ascend by a relation: two with the same elements are equal.
use Rattle.std.proofs.Common.{◌≡◌, ◌∙◌, ◌<◌, ◌⊎◌, inl, inr, refl, sym, ap₂, subst, arith, ℤ, pos, List, [], ◌∷◌, ◌++◌, IsPermutation}
use Rattle.lpis_register_rows.proofs.Common.{AllByRecursion, All-from_recursion, recursion_from_All, All-permutation, IsPermutation-sym, IsPermutation-trans}

-- each element of the list has the relation to all that come after it
abbrev pub Ascends : {A : Type 0} → (A → A → Type 0) → List A → Type 0
Ascends R [] = Unit {0}
Ascends R (x ∷ xs) = AllByRecursion (R x) xs × Ascends R xs

-- where all elements have a property that implies another, all have the other
pub all-map : {A : Type 0} (P Q : A → Type 0) (xs : List A) → ((x : A) → P x → Q x) → AllByRecursion P xs → AllByRecursion Q xs
all-map P Q [] f a = a
all-map P Q (x ∷ xs) f a = (f x a.0, all-map P Q xs f a.1)

-- where all elements have two properties that together imply a third, all have the third
pub all-both : {A : Type 0} (P Q S : A → Type 0) (xs : List A) → ((x : A) → P x → Q x → S x) → AllByRecursion P xs → AllByRecursion Q xs → AllByRecursion S xs
all-both P Q S [] f a b = a
all-both P Q S (x ∷ xs) f a b = (f x a.0 b.0, all-both P Q S xs f a.1 b.1)

-- what all elements of two lists have, all of the two joined have
pub all-append : {A : Type 0} (P : A → Type 0) (xs ys : List A) → AllByRecursion P xs → AllByRecursion P ys → AllByRecursion P (xs ++ ys)
all-append P [] ys a b = b
all-append P (x ∷ xs) ys a b = (a.0, all-append P xs ys a.1 b)

-- what all elements of a list have, all of the list in another order have
pub all-moved : {A : Type 0} (P : A → Type 0) (xs ys : List A) → IsPermutation xs ys → AllByRecursion P xs → AllByRecursion P ys
all-moved P xs ys p a = recursion_from_All P ys (All-permutation P xs ys p (All-from_recursion P xs a))

-- two lists that ascend do so joined, where each element of the first has the relation to all of the second
pub ascends-append : {A : Type 0} (R : A → A → Type 0) (xs ys : List A) → Ascends R xs → Ascends R ys → AllByRecursion (λ x. AllByRecursion (R x) ys) xs → Ascends R (xs ++ ys)
ascends-append R [] ys a b all = b
ascends-append R (x ∷ xs) ys a b all = (all-append (R x) xs ys a.0 all.0, ascends-append R xs ys a.1 b all.1)

-- what holds of each element of the one holds of each of the other
abbrev Within : {A : Type 0} → List A → List A → Type 1
Within {A = A} xs ys = (P : A → Type 0) → AllByRecursion P xs → AllByRecursion P ys

same-within : {A : Type 0} (R : A → A → Type 0) → ((x y : A) → R x y → R y x → ⊥) → (xs ys : List A) → Ascends R xs → Ascends R ys → Within xs ys → Within ys xs → xs ≡ ys
same-within R alone [] [] a b to from = refl
same-within R alone [] (y ∷ ys) a b to from = absurd (to (λ z. ⊥) tt).0
same-within R alone (x ∷ xs) [] a b to from = absurd (from (λ z. ⊥) tt).0
same-within {A = A} R alone (x ∷ xs) (y ∷ ys) a b to from =
    let e : y ≡ x = head in
    ap₂ (λ (z : A) (zs : List A). z ∷ zs) (sym e) (same-within R alone xs ys a.1 b.1 (tails x y xs ys (sym e) b.0 to) (tails y x ys xs e a.0 from)) where
      heads : (u v : A) (us vs : List A) → AllByRecursion (R u) us → Within (u ∷ us) (v ∷ vs) → (v ≡ u) ⊎ R u v
      heads u v us vs below w = (w (λ z. (z ≡ u) ⊎ R u z) (inl refl, all-map (R u) (λ z. (z ≡ u) ⊎ R u z) us (λ z r. inr r) below)).0

      head : y ≡ x
      head = elim (heads x y xs ys a.0 to) as (λ _. y ≡ x) [ inl e ↦ e | inr r ↦ elim (heads y x ys xs b.0 from) as (λ _. y ≡ x) [ inl e ↦ sym e | inr s ↦ absurd (alone x y r s) ] ]

      other : (u v z : A) (P : A → Type 0) → u ≡ v → R v z → (z ≡ u) ⊎ P z → P z
      other u v z P e r (inr p) = p
      other u v z P e r (inl q) = absurd (let s : R v v = subst (R v) (q ∙ e) r in alone v v s s)

      tails : (u v : A) (us vs : List A) → u ≡ v → AllByRecursion (R v) vs → Within (u ∷ us) (v ∷ vs) → Within us vs
      tails u v us vs e below w P all = all-both (R v) (λ z. (z ≡ u) ⊎ P z) P vs (λ z r p. other u v z P e r p) below
          (w (λ z. (z ≡ u) ⊎ P z) (inl refl, all-map P (λ z. (z ≡ u) ⊎ P z) us (λ z p. inr p) all)).1

-- two orders of the same elements that both ascend are equal
pub same-ascending : {A : Type 0} (R : A → A → Type 0) → ((x y : A) → R x y → R y x → ⊥) → (xs ys : List A) → Ascends R xs → Ascends R ys → IsPermutation xs ys → xs ≡ ys
same-ascending R alone xs ys a b p = same-within R alone xs ys a b (λ P all. all-moved P xs ys p all) (λ P all. all-moved P ys xs (IsPermutation-sym xs ys p) all)

-- ---- years

-- both numbers are 0 or more, and the first is less than the second
abbrev pub number_below : ℤ → ℤ → Type 0
number_below (pos a) (pos b) = a < b
number_below _ _ = ⊥

-- no two numbers are each below the other
pub below-alone : (x y : ℤ) → number_below x y → number_below y x → ⊥
below-alone (pos a) (pos b) r s = omega arith
below-alone _ _ r s = r

-- two orders of one list are orders of each other
pub both-orders : {A : Type 0} (xs ys zs : List A) → IsPermutation xs ys → IsPermutation xs zs → IsPermutation ys zs
both-orders xs ys zs a b = IsPermutation-trans ys xs zs (IsPermutation-sym xs ys a) b
