-- What is sorted and has the elements of a list that ascends strictly is that list.
use Rattle.std.proofs.Common.{◌≡◌, ◌∙◌, ◌<◌, ◌≤◌, inl, inr, refl, sym, ap, arith, ℕ, suc, ℤ, pos, List, [], ◌∷◌, Bool, true, false, cond, length, map, get_or, IsPermutation, Ordering, ◌&&◌}
use Rattle.std.proofs.Common.{◌||◌, not, IsSorted, Less, Equal, filter, IsSortedByKey, int_cmp, is_lt, nat_cmp}
use Rattle.lpis_register_rows.proofs.Common.{AllByRecursion, list_any, nat_tests, IsPermutation-sym, IsPermutation-trans, filter-none, KnownLine, Line, line_in}
use Rattle.std.specs.Cmp.{IsStrictWeakOrder, IsTotalOrder, int_cmp_is}
use Rattle.std.specs.List.Sorted.{ties}
use Rattle.std.specs.Ordering.{ordering_then}
use Rattle.std.proofs.lemmas.Cmp.{int_cmp_total, nat_cmp_total, on_total, then_total}
use Rattle.std.proofs.lemmas.Int.{ints}
use Rattle.std.proofs.lemmas.List.Sorted.{ranks_by, sorted_far}
use Rattle.lpis_lineage.proofs.Shared.{filter-some}
use Rattle.lpis_register_rows.proofs.AscendingLemmas.{Ascends, all-map, number_below, same-ascending}
use Rattle.lpis_register_rows.proofs.SpanRowLemmas.{count-moved}
use Rattle.lpis_register_rows.specs.private.Known.{line_cmp}
use Rattle.lpis_register_rows.proofs.YearLemmas.{line_below}

-- a list that ascends by a relation ascends by any other that the relation implies
pub ascends-map : {A : Type 0} (R S : A → A → Type 0) (xs : List A) → ((x y : A) → R x y → S x y) → Ascends R xs → Ascends S xs
ascends-map R S [] f a = tt
ascends-map R S (x ∷ xs) f a = (all-map (R x) (S x) xs (f x) a.0, ascends-map R S xs f a.1)

-- no later element is less than an earlier one
abbrev pub Rises : {A : Type 0} → (A → A → Bool) → List A → Type 0
Rises lt [] = Unit {0}
Rises lt (x ∷ xs) = AllByRecursion (λ y. lt y x ≡ false) xs × Rises lt xs

-- the test as a relation
abbrev pub Less_by : {A : Type 0} → (A → A → Bool) → A → A → Type 0
Less_by lt x y = lt x y ≡ true

above-far : {A B : Type 0} (lt : A → A → Bool) (f : B → A) (x : A) (xs : List B)
    → ((k : ℕ) (d : B) → k < length xs → lt (f (get_or xs k d)) x ≡ false) → AllByRecursion (λ y. lt y x ≡ false) (map f xs)
above-far lt f x [] far = tt
above-far lt f x (y ∷ ys) far = (far 0 y (omega arith), above-far lt f x ys (λ k d p. far (suc k) d (omega arith)))

-- the images of a list rise, where none is less than one at an earlier or the same position
pub rises-far : {A B : Type 0} (lt : A → A → Bool) (f : B → A) (xs : List B) → ((i j : ℕ) (d : B) → i ≤ j → j < length xs → lt (f (get_or xs j d)) (f (get_or xs i d)) ≡ false) → Rises lt (map f xs)
rises-far lt f [] far = tt
rises-far lt f (x ∷ xs) far = (above-far lt f (f x) xs (λ k d p. far 0 (suc k) d (omega arith) (omega arith)), rises-far lt f xs (λ i j d p q. far (suc i) (suc j) d (omega arith) (omega arith)))

false-true : {P : Type 0} → (b : Bool) → b ≡ false → b ≡ true → P
false-true true f t = cc f
false-true false f t = cc t

tied-parts : (a b : Bool) → (not a && not b) ≡ true → (a ≡ false) × (b ≡ false)
tied-parts false false e = (refl, refl)
tied-parts _ _ e = cc e

-- of elements that ascend strictly at most one ties with another
none-tied : {A : Type 0} (lt : A → A → Bool) → IsStrictWeakOrder lt → (z y : A) (xs : List A) → ties lt z y ≡ true → AllByRecursion (Less_by lt y) xs → list_any (ties lt z) xs ≡ false
none-tied lt order z y [] tied all = refl
none-tied {A = A} lt order z y (x ∷ xs) tied all = by (ties lt z x) refl (none-tied lt order z y xs tied all.1) where
  by : (b : Bool) → b ≡ ties lt z x → list_any (ties lt z) xs ≡ false → (ties lt z x || list_any (ties lt z) xs) ≡ false
  by true e rest = let p = tied-parts (lt z y) (lt y z) tied in let q = tied-parts (lt z x) (lt x z) (sym e) in false-true (lt y x) (order.chain y z x p.1 q.0) all.0
  by false e rest = ap (λ (b : Bool). b || list_any (ties lt z) xs) (sym e) ∙ rest

few-tied : {A : Type 0} (lt : A → A → Bool) → IsStrictWeakOrder lt → (xs : List A) → Ascends (Less_by lt) xs → (z : A) → length (filter (ties lt z) xs) ≤ 1
few-tied lt order [] a z = omega arith
few-tied {A = A} lt order (x ∷ xs) a z = by (ties lt z x) refl (few-tied lt order xs a.1 z) where
  by : (b : Bool) → b ≡ ties lt z x → length (filter (ties lt z) xs) ≤ 1 → length (cond (ties lt z x) (x ∷ filter (ties lt z) xs) (filter (ties lt z) xs)) ≤ 1
  by true e few = let none = filter-none (ties lt z) xs (none-tied lt order z x xs (sym e) a.0) in let n =
      ap (λ (b : Bool). length (cond b (x ∷ filter (ties lt z) xs) (filter (ties lt z) xs))) (sym e) in
      omega (arith, none, n)
  by false e few = let n = ap (λ (b : Bool). length (cond b (x ∷ filter (ties lt z) xs) (filter (ties lt z) xs))) (sym e) in omega (arith, few, n)

-- and what rises with at most one of each ascends strictly
strictly-above : {A : Type 0} (lt : A → A → Bool) (x : A) (xs : List A) → AllByRecursion (λ y. lt y x ≡ false) xs → list_any (ties lt x) xs ≡ false → AllByRecursion (Less_by lt x) xs
strictly-above lt x [] all none = tt
strictly-above lt x (y ∷ ys) all none = (here (lt x y) (lt y x) (list_any (ties lt x) ys) all.0 none, strictly-above lt x ys all.1 (later (ties lt x y) (list_any (ties lt x) ys) none)) where
  here : (a b c : Bool) → b ≡ false → ((not a && not b) || c) ≡ false → a ≡ true
  here true b c e n = refl
  here false true c e n = cc e
  here false false c e n = cc n

  later : (a b : Bool) → (a || b) ≡ false → b ≡ false
  later true b n = cc n
  later false b n = n

strict-rises : {A : Type 0} (lt : A → A → Bool) → IsStrictWeakOrder lt → (xs : List A) → Rises lt xs → ((z : A) → length (filter (ties lt z) xs) ≤ 1) → Ascends (Less_by lt) xs
strict-rises lt order [] up few = tt
strict-rises {A = A} lt order (x ∷ xs) up few = (strictly-above lt x xs up.0 (none (list_any (ties lt x) xs) refl), strict-rises lt order xs up.1 (λ z. fewer z (ties lt z x) refl)) where
  irreflexive : (b : Bool) → b ≡ lt x x → lt x x ≡ false
  irreflexive true e = order.one_way x x (sym e)
  irreflexive false e = sym e

  itself : ties lt x x ≡ true
  itself = ap (λ (b : Bool). not b && not b) (irreflexive (lt x x) refl)

  none : (b : Bool) → b ≡ list_any (ties lt x) xs → list_any (ties lt x) xs ≡ false
  none true e = absurd (let some = filter-some (ties lt x) xs (sym e) in let n =
      ap (λ (b : Bool). length (cond b (x ∷ filter (ties lt x) xs) (filter (ties lt x) xs))) itself in let f = few x in
      omega (arith, some, n, f))
  none false e = sym e

  fewer : (z : A) (b : Bool) → b ≡ ties lt z x → length (filter (ties lt z) xs) ≤ 1
  fewer z true e = let n = ap (λ (b : Bool). length (cond b (x ∷ filter (ties lt z) xs) (filter (ties lt z) xs))) (sym e) in let f = few z in omega (arith, n, f)
  fewer z false e = let n = ap (λ (b : Bool). length (cond b (x ∷ filter (ties lt z) xs) (filter (ties lt z) xs))) (sym e) in let f = few z in omega (arith, n, f)

-- what rises and has the elements of a list that ascends strictly is that list
pub sorted-same : {A : Type 0} (lt : A → A → Bool) → IsStrictWeakOrder lt → (xs ys : List A) → Rises lt xs → Ascends (Less_by lt) ys → IsPermutation xs ys → xs ≡ ys
sorted-same lt order xs ys up a p = same-ascending (Less_by lt) (λ x y r s. false-true (lt y x) (order.one_way x y r) s)
    xs ys (strict-rises lt order xs up (λ z. let n = count-moved (ties lt z) xs ys p in let f =
    few-tied lt order ys a z in omega (arith, n, f))) a p

-- ---- years and lines

below-less : (a b : ℤ) → number_below a b → int_cmp a b ≡ Less
below-less (pos a) (pos b) r = sym (int_cmp_is (pos a) (pos b) Less (omega (arith, ints, r)))
below-less _ _ r = absurd r

nat-int : (a b : ℕ) → is_lt (nat_cmp a b) ≡ is_lt (int_cmp (pos a) (pos b))
nat-int a b = grind (arith, ints, nat_tests)

-- years that ascend are those that any order of them gives when sorted
pub sorted-years : (ys : List ℤ) (sorted : List ℕ) (told : List ℤ) → IsSorted nat_cmp sorted → Ascends number_below told
    → IsPermutation ys (map (λ y. pos y) sorted) → IsPermutation ys told → told ≡ map (λ y. pos y) sorted
sorted-years ys sorted told up a p q = sym (sorted-same (λ (x y : ℤ). is_lt (int_cmp x y)) (ranks_by int_cmp_total (λ (z : ℤ). z)) (map (λ y. pos y) sorted) told
    (rises-far (λ (x y : ℤ). is_lt (int_cmp x y)) (λ y. pos y) sorted
    (λ i j d le lt. sym (nat-int (get_or sorted j d) (get_or sorted i d))
    ∙ sorted_far (λ (x y : ℕ). is_lt (nat_cmp x y)) (nat_order) sorted up i j d le lt))
    (ascends-map number_below (Less_by (λ (x y : ℤ). is_lt (int_cmp x y))) told (λ x y r. ap is_lt (below-less x y r)) a)
    (IsPermutation-trans (map (λ y. pos y) sorted) ys told (IsPermutation-sym ys (map (λ y. pos y) sorted) p) q)) where
      nat_order : IsStrictWeakOrder (λ (x y : ℕ). is_lt (nat_cmp x y))
      nat_order = ranks_by nat_cmp_total (λ (n : ℕ). n)

line_cmp-total : IsTotalOrder line_cmp
line_cmp-total = then_total (on_total (λ (l : Line). l.year) int_cmp_total) (on_total (λ (l : Line). l.position) int_cmp_total)

-- a row below another, by year and in it by position, is less in the order that sorts them
pub lines-less : (a b : Line) → line_below a b → is_lt (line_cmp a b) ≡ true
lines-less a b (inl r) = ap (λ (o : Ordering). is_lt (ordering_then o (int_cmp a.position b.position))) (below-less a.year b.year r)
lines-less a b (inr (e, r)) =
    ap (λ (o : Ordering). is_lt (ordering_then o (int_cmp a.position b.position))) (sym (int_cmp_is a.year b.year Equal e))
    ∙ ap is_lt (below-less a.position b.position r)

-- rows of lineage that ascend are those that any order of them gives when read and sorted
pub sorted-lines : (ls : List Line) (sorted : List KnownLine) (told : List Line) → IsSortedByKey line_in line_cmp sorted → Ascends line_below told
    → IsPermutation ls (map line_in sorted) → IsPermutation ls told → told ≡ map line_in sorted
sorted-lines ls sorted told up a p q = sym (sorted-same (λ (x y : Line). is_lt (line_cmp x y)) (ranks_by line_cmp-total (λ (l : Line). l)) (map line_in sorted) told
    (rises-far (λ (x y : Line). is_lt (line_cmp x y)) line_in sorted (sorted_far (λ (x y : KnownLine). is_lt (line_cmp (line_in x) (line_in y))) (ranks_by line_cmp-total line_in) sorted up))
    (ascends-map line_below (Less_by (λ (x y : Line). is_lt (line_cmp x y))) told lines-less a)
    (IsPermutation-trans (map line_in sorted) ls told (IsPermutation-sym ls (map line_in sorted) p) q))
