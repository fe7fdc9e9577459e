-- Lists: what holds of each item, sums of terms that are 0 or 1, and what a filter keeps.
use Rattle.std.proofs.Common.{◌≡◌, ℕ, zero, suc, ℤ, pos, negsuc, ◌+ℤ◌, ◌≤ℤ◌, Bool, true, false, cond, List, [], ◌∷◌, ◌++◌, get_or, Some, inl, inr, ◌↔◌, IsTrue, All, filter, ap, sym, refl, ◌∙◌}
use Rattle.std.proofs.Common.{subst, arith, slice_get, Any}
use Rattle.lpis_edge_sums.proofs.Common.{ints, slice_get_within}
use Rattle.std.proofs.lemmas.List.Elements.{Contains-append_right, All-contains, All-head, All-tail, All-weaker, Contains-append_left, Contains-get_or}
use Rattle.std.proofs.lemmas.Option.{none-some, slice_get-get_or, get_or_from_slice_get, same_Some}
use Rattle.lpis_points.specs.Sums.{int_sum_by}
use Rattle.lpis_rings.specs.Map.{IsOneOrNone}
use Rattle.lpis_edge_sums.specs.Counting.{AtMostOne}

-- a test that is false
pub untrue : {P : Type 0} (b : Bool) → (IsTrue b ↔ P) → b ≡ false → P → ⊥
untrue b h e p = clash (h.1 p)
  where
    clash : b ≡ true → ⊥
    clash f = cc

-- an element with the property, by its index
pub record Found {A : Type 0} (P : A → Type 0) (xs : List A) : Type 0 where
  pub index : ℕ
  pub item : A
  pub at : slice_get xs index ≡ Some item
  pub has : P item

-- where an item with the property is found by its index, some item has it
pub found_any : {A : Type 0} (P : A → Type 0) (xs : List A) → Found P xs → Any P xs
found_any P xs f = (f.index, f.item, slice_get_within xs f.index f.item f.at, get_or_from_slice_get xs f.index f.item f.item f.at, f.has)

-- where some item has the property, one is found by its index
pub any_found : {A : Type 0} (P : A → Type 0) (xs : List A) → Any P xs → Found P xs
any_found P xs a = record { index = a.0; item = a.1; at = slice_get-get_or xs a.0 a.1 a.2 ∙ ap Some a.3; has = a.4 }

-- the item at an index has what all items have
pub all_at : {A : Type 0} (P : A → Type 0) (xs : List A) (k : ℕ) (x : A) → slice_get xs k ≡ Some x → All P xs → P x
all_at P xs k x e h = subst P (get_or_from_slice_get xs k x x e) (h k x (slice_get_within xs k x e))

-- all items have what the item at each index has
pub all_from : {A : Type 0} (P : A → Type 0) (xs : List A) → ((k : ℕ) (x : A) → slice_get xs k ≡ Some x → P x) → All P xs
all_from P xs h k d l = h k (get_or xs k d) (slice_get-get_or xs k d l)

-- what all items of two lists joined have, those of the first have
pub all_left : {A : Type 0} (P : A → Type 0) (xs ys : List A) → All P (xs ++ ys) → All P xs
all_left P xs ys h = λ k d l. All-contains P (xs ++ ys) (get_or xs k d) h (Contains-append_left xs ys (get_or xs k d) (Contains-get_or xs k d l))

-- what all items of two lists joined have, those of the second have
pub all_right : {A : Type 0} (P : A → Type 0) (xs ys : List A) → All P (xs ++ ys) → All P ys
all_right P xs ys h = λ k d l. All-contains P (xs ++ ys) (get_or ys k d) h (Contains-append_right xs ys (get_or ys k d) (Contains-get_or ys k d l))

-- ---- sums of terms that are not below 0
total-not_neg : {A : Type 0} (g : A → ℤ) (xs : List A) → All (λ x. pos 0 ≤ℤ g x) xs → pos 0 ≤ℤ int_sum_by g xs
total-not_neg g [] h = omega (arith, ints)
total-not_neg g (x ∷ xs) h = by (g x) (int_sum_by g xs) (All-head (λ y. pos 0 ≤ℤ g y) x xs h) (total-not_neg g xs (All-tail (λ y. pos 0 ≤ℤ g y) x xs h))
  where
    by : (a b : ℤ) → pos 0 ≤ℤ a → pos 0 ≤ℤ b → pos 0 ≤ℤ (a +ℤ b)
    by a b h k = omega (arith, ints)

total-filter : {A : Type 0} (g : A → ℤ) (q : A → Bool) (xs : List A) → All (λ x. pos 0 ≤ℤ g x) xs → (pos 0 ≤ℤ int_sum_by g (filter q xs)) × (int_sum_by g (filter q xs) ≤ℤ int_sum_by g xs)
total-filter g q [] h = (omega (arith, ints), omega (arith, ints))
total-filter {A} g q (x ∷ xs) h = by (q x) (All-head (λ y. pos 0 ≤ℤ g y) x xs h) (total-filter g q xs (All-tail (λ y. pos 0 ≤ℤ g y) x xs h))
  where
    kept : (a u t : ℤ) → pos 0 ≤ℤ a → (pos 0 ≤ℤ u) × (u ≤ℤ t) → (pos 0 ≤ℤ (a +ℤ u)) × ((a +ℤ u) ≤ℤ (a +ℤ t))
    kept a u t p k = (omega (arith, ints, k.0), omega (arith, ints, k.1))

    left : (a u t : ℤ) → pos 0 ≤ℤ a → (pos 0 ≤ℤ u) × (u ≤ℤ t) → (pos 0 ≤ℤ u) × (u ≤ℤ (a +ℤ t))
    left a u t p k = (k.0, omega (arith, ints, k.1))

    by : (b : Bool) → pos 0 ≤ℤ g x → (pos 0 ≤ℤ int_sum_by g (filter q xs)) × (int_sum_by g (filter q xs) ≤ℤ int_sum_by g xs)
        → (pos 0 ≤ℤ int_sum_by g (cond b (x ∷ filter q xs) (filter q xs)))
        × (int_sum_by g (cond b (x ∷ filter q xs) (filter q xs)) ≤ℤ (g x +ℤ int_sum_by g xs))
    by true p k = kept (g x) (int_sum_by g (filter q xs)) (int_sum_by g xs) p k
    by false p k = left (g x) (int_sum_by g (filter q xs)) (int_sum_by g xs) p k

-- ---- sums of terms that are 0 or 1
not_negs : {A : Type 0} (g : A → ℤ) (xs : List A) → All (λ x. IsOneOrNone (g x)) xs → All (λ x. pos 0 ≤ℤ g x) xs
not_negs g xs h = All-weaker (λ x. IsOneOrNone (g x)) (λ x. pos 0 ≤ℤ g x) (λ x o. by (g x) o) xs h
  where
    by : (a : ℤ) → IsOneOrNone a → pos 0 ≤ℤ a
    by a (inl e) = omega (arith, ints)
    by a (inr e) = omega (arith, ints)

-- terms of 0 or 1 with a sum of 0 or 1 have such a sum too where a filter keeps only some of them
pub one_of_some : {A : Type 0} (g : A → ℤ) (q : A → Bool) (xs : List A) → All (λ x. IsOneOrNone (g x)) xs → IsOneOrNone (int_sum_by g xs) → IsOneOrNone (int_sum_by g (filter q xs))
one_of_some g q xs h o = by (int_sum_by g (filter q xs)) (int_sum_by g xs) (total-filter g q xs (not_negs g xs h)) o
  where
    by : (u t : ℤ) → (pos 0 ≤ℤ u) × (u ≤ℤ t) → IsOneOrNone t → IsOneOrNone u
    by u t k (inl e) = inl (omega (arith, ints, k.0, k.1))
    by (pos zero) t k (inr e) = inl refl
    by (pos (suc n)) t k (inr e) = inr (omega (arith, ints, k.0, k.1))
    by (negsuc n) t k (inr e) = absurd (omega (arith, ints, k.0))

-- an element whose term is 1
at_least : {A : Type 0} (g : A → ℤ) (xs : List A) (k : ℕ) (x : A) → All (λ y. IsOneOrNone (g y)) xs → slice_get xs k ≡ Some x → g x ≡ pos 1 → pos 1 ≤ℤ int_sum_by g xs
at_least g [] k x h e f = absurd (none-some x e)
at_least g (y ∷ ys) zero x h e f = here (g y) (int_sum_by g ys) (ap g (same_Some y x e) ∙ f) (total-not_neg g ys (not_negs g ys (All-tail (λ z. IsOneOrNone (g z)) y ys h)))
  where
    here : (a b : ℤ) → a ≡ pos 1 → pos 0 ≤ℤ b → pos 1 ≤ℤ (a +ℤ b)
    here a b e k = omega (arith, ints)
at_least g (y ∷ ys) (suc k) x h e f = later (g y) (int_sum_by g ys) (All-head (λ z. IsOneOrNone (g z)) y ys h) (at_least g ys k x (All-tail (λ z. IsOneOrNone (g z)) y ys h) e f)
  where
    later : (a b : ℤ) → IsOneOrNone a → pos 1 ≤ℤ b → pos 1 ≤ℤ (a +ℤ b)
    later a b (inl e) k = omega (arith, ints)
    later a b (inr e) k = omega (arith, ints)

two_ones : (a b : ℤ) → a ≡ pos 1 → pos 1 ≤ℤ b → IsOneOrNone (a +ℤ b) → ⊥
two_ones a b e k (inl f) = omega (arith, ints)
two_ones a b e k (inr f) = omega (arith, ints)

rest_one : (a b : ℤ) → IsOneOrNone a → pos 0 ≤ℤ b → IsOneOrNone (a +ℤ b) → IsOneOrNone b
rest_one a b (inl e) k (inl f) = inl (omega (arith, ints))
rest_one a b (inl e) k (inr f) = inr (omega (arith, ints))
rest_one a b (inr e) k (inl f) = absurd (omega (arith, ints))
rest_one a b (inr e) k (inr f) = inl (omega (arith, ints))

-- where terms of 0 or 1 have a sum of 0 or 1, at most one of them is 1
pub at_most_one : {A : Type 0} (g : A → ℤ) (xs : List A) → All (λ y. IsOneOrNone (g y)) xs → IsOneOrNone (int_sum_by g xs) → AtMostOne (λ x. g x ≡ pos 1) xs
at_most_one g [] h o i j a b e f p q = absurd (none-some a e)
at_most_one g (x ∷ xs) h o zero zero a b e f p q = refl
at_most_one g (x ∷ xs) h o zero (suc j) a b e f p q = absurd (two_ones (g x) (int_sum_by g xs) (ap g (same_Some x a e) ∙ p) (at_least g xs j b (All-tail (λ z. IsOneOrNone (g z)) x xs h) f q) o)
at_most_one g (x ∷ xs) h o (suc i) zero a b e f p q = absurd (two_ones (g x) (int_sum_by g xs) (ap g (same_Some x b f) ∙ q) (at_least g xs i a (All-tail (λ z. IsOneOrNone (g z)) x xs h) e p) o)
at_most_one g (x ∷ xs) h o (suc i) (suc j) a b e f p q =
    let t = All-tail (λ z. IsOneOrNone (g z)) x xs h in
    ap suc (at_most_one g xs t (rest_one (g x) (int_sum_by g xs) (All-head (λ z. IsOneOrNone (g z)) x xs h) (total-not_neg g xs (not_negs g xs t)) o) i j a b e f p q)

-- a sum of 1 has an element whose term is 1
pub one_found : {A : Type 0} (g : A → ℤ) (xs : List A) → All (λ y. IsOneOrNone (g y)) xs → int_sum_by g xs ≡ pos 1 → Found (λ x. g x ≡ pos 1) xs
one_found g [] h e = absurd (nought e)
  where
    nought : pos 0 ≡ pos 1 → ⊥
    nought e = omega (arith, ints)
one_found {A} g (x ∷ xs) h e = by (All-head (λ z. IsOneOrNone (g z)) x xs h) (λ k. one_found g xs (All-tail (λ z. IsOneOrNone (g z)) x xs h) k)
  where
    rest : (a b : ℤ) → a ≡ pos 0 → a +ℤ b ≡ pos 1 → b ≡ pos 1
    rest a b p q = omega (arith, ints)

    later : Found (λ z. g z ≡ pos 1) xs → Found (λ z. g z ≡ pos 1) (x ∷ xs)
    later f = record { index = suc f.index; item = f.item; at = f.at; has = f.has }

    by : IsOneOrNone (g x) → (int_sum_by g xs ≡ pos 1 → Found (λ z. g z ≡ pos 1) xs) → Found (λ z. g z ≡ pos 1) (x ∷ xs)
    by (inl z) k = later (k (rest (g x) (int_sum_by g xs) z e))
    by (inr o) k = record { index = 0; item = x; at = refl; has = o }

-- where terms of 0 or 1 have a sum of 0 or 1, and one of them is 1, the sum is 1
pub total_one : {A : Type 0} (g : A → ℤ) (xs : List A) → All (λ y. IsOneOrNone (g y)) xs → IsOneOrNone (int_sum_by g xs) → Found (λ x. g x ≡ pos 1) xs → int_sum_by g xs ≡ pos 1
total_one g xs h o f = by (int_sum_by g xs) (at_least g xs f.index f.item h f.at f.has) o
  where
    by : (t : ℤ) → pos 1 ≤ℤ t → IsOneOrNone t → t ≡ pos 1
    by t k (inl e) = absurd (omega (arith, ints))
    by t k (inr e) = e

-- where at most one term is 1, the sum is 0 or 1
pub few_total : {A : Type 0} (g : A → ℤ) (xs : List A) → All (λ y. IsOneOrNone (g y)) xs → AtMostOne (λ x. g x ≡ pos 1) xs → IsOneOrNone (int_sum_by g xs)
few_total g [] h m = inl refl
few_total {A} g (x ∷ xs) h m = by (g x) (int_sum_by g xs) refl (All-head (λ z. IsOneOrNone (g z)) x xs h) (few_total g xs rest (λ i j a b e f p q. down i j (m (suc i) (suc j) a b e f p q)))
  where
    rest : All (λ y. IsOneOrNone (g y)) xs
    rest = All-tail (λ z. IsOneOrNone (g z)) x xs h

    down : (i j : ℕ) → suc i ≡ suc j → i ≡ j
    down i j e = omega arith

    one_zero : (n : ℕ) → 0 ≡ suc n → ⊥
    one_zero n e = omega arith

    second : g x ≡ pos 1 → Found (λ y. g y ≡ pos 1) xs → ⊥
    second o f = one_zero f.index (m 0 (suc f.index) x f.item refl f.at o f.has)

    by : (a t : ℤ) → a ≡ g x → IsOneOrNone a → IsOneOrNone (int_sum_by g xs) → IsOneOrNone (a +ℤ int_sum_by g xs)
    by a t e (inl z) (inl n) = inl (omega (arith, ints))
    by a t e (inl z) (inr n) = inr (omega (arith, ints))
    by a t e (inr z) (inl n) = inr (omega (arith, ints))
    by a t e (inr z) (inr n) = absurd (second (sym e ∙ z) (one_found g xs rest n))

-- ---- what a filter keeps
-- an item of the list, by its index, that passes the test
pub record Kept {A : Type 0} (q : A → Bool) (xs : List A) (x : A) : Type 0 where
  pub index : ℕ
  pub at : slice_get xs index ≡ Some x
  pub passes : q x ≡ true

-- what a filter has at an index is an item of the list that passes the test
pub filter_kept : {A : Type 0} (q : A → Bool) (xs : List A) (k : ℕ) (x : A) → slice_get (filter q xs) k ≡ Some x → Kept q xs x
filter_kept q [] k x e = absurd (none-some x e)
filter_kept {A} q (y ∷ ys) k x e = by (q y) refl k e (λ m f. filter_kept q ys m x f)
  where
    later : Kept q ys x → Kept q (y ∷ ys) x
    later f = record { index = suc f.index; at = f.at; passes = f.passes }

    by : (b : Bool) → q y ≡ b → (m : ℕ) → slice_get (cond b (y ∷ filter q ys) (filter q ys)) m ≡ Some x → ((n : ℕ) → slice_get (filter q ys) n ≡ Some x → Kept q ys x) → Kept q (y ∷ ys) x
    by true t zero e rec = record { index = 0; at = e; passes = ap q (sym (same_Some y x e)) ∙ t }
    by true t (suc m) e rec = later (rec m e)
    by false t m e rec = later (rec m e)
