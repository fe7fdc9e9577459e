-- One walk over grouped edges.
use Rattle.std.proofs.Common.{◌≡◌, ℕ, zero, suc, ◌+◌, ◌<◌, ◌≤◌, ℤ, pos, negsuc, ◌+ℤ◌, ◌-ℤ◌, nat_abs, Bool, true, false, ◌&&◌, cond, List, [], ◌∷◌, ◌++◌, length, get_or, take, drop, Option, Some, None}
use Rattle.std.proofs.Common.{ap, ap₂, sym, refl, ◌∙◌, arith, sum_by, slice_get, IsPermutation}
use Rattle.lpis_edge_sums.proofs.Common.{ints, slice_get_within, Point, same_point, SignedEdge, edge_sign, sum_at, IsGrouped}
use Rattle.std.proofs.lemmas.Option.{same_Some, slice_get-get_or, slice_get_past}
use Rattle.std.proofs.lemmas.List.{take_more, take_all, take-append-drop}
use Rattle.std.proofs.lemmas.List.Sums.{sum_by-cons}
use Rattle.std.proofs.lemmas.List.Sorted.{sum_by-IsPermutation}
use Rattle.lpis_edge_sums.specs.private.SignedEdges.{is_at, SumsAreZero, same_ends, EndsRun}
use Rattle.lpis_edge_sums.proofs.PointOrderLemmas.{both_same}

-- edges with the same ends lie between the same points
same_at : (x y : SignedEdge) → same_ends x y ≡ true → (a b : Point) → is_at a b x ≡ is_at a b y
same_at x y h a b =
    let r = (both_same x.low y.low x.high y.high).0 h in
    ap₂ (λ (u v : Point). same_point a u && same_point b v) r.0 r.1

at_itself : (x : SignedEdge) → is_at x.low x.high x ≡ true
at_itself x = (both_same x.low x.low x.high x.high).1 (refl, refl)

-- the sum of the signs between a and b over two lists joined is the two sums added
pub sum_at-append : (a b : Point) (xs ys : List SignedEdge) → sum_at a b (xs ++ ys) ≡ sum_at a b xs +ℤ sum_at a b ys
sum_at-append a b [] ys = from (sum_at a b ys)
  where
    from : (x : ℤ) → x ≡ pos 0 +ℤ x
    from x = omega (arith, ints)
sum_at-append a b (x ∷ xs) ys = joined (cond (is_at a b x) (edge_sign x) (pos 0)) (sum_at a b xs) (sum_at a b ys) (sum_at a b (xs ++ ys)) (sum_at-append a b xs ys)
  where
    joined : (x y z w : ℤ) → w ≡ y +ℤ z → x +ℤ w ≡ (x +ℤ y) +ℤ z
    joined x y z w e = omega (arith, ints)

-- whether the next edge, if there is one, lies between a and b
abbrev pub is_next : Point → Point → Option SignedEdge → Bool
is_next a b None = false
is_next a b (Some x) = is_at a b x

-- the sum of the open run, and 0 elsewhere
pub record WalkAt (xs : List SignedEdge) (k : ℕ) (sum : ℤ) : Type 0 where
  pub sums : (a b : Point) → sum_at a b (take k xs) ≡ cond (is_next a b (slice_get xs k)) sum (pos 0)
  pub small : nat_abs sum ≤ k

-- before the first edge the open run has the sum 0
pub walk_none : (xs : List SignedEdge) → WalkAt xs 0 (pos 0)
walk_none xs = record { sums = λ a b. nothing (is_next a b (slice_get xs 0)); small = omega (arith, ints) }
  where
    nothing : (t : Bool) → pos 0 ≡ cond t (pos 0) (pos 0)
    nothing true = refl
    nothing false = refl

-- the prefix with the element at k
step_sum : (xs : List SignedEdge) (k : ℕ) (sum : ℤ) (x : SignedEdge) → WalkAt xs k sum → slice_get xs k ≡ Some x
    → k < length xs → (a b : Point) → sum_at a b (take (k + 1) xs) ≡ cond (is_at a b x) (sum +ℤ edge_sign x) (pos 0)
step_sum xs k sum x w e l a b =
    ap (sum_at a b) (take_more xs k x l ∙ ap (λ (y : SignedEdge). take k xs ++ y ∷ []) (same_Some (get_or xs k x) x (sym (slice_get-get_or xs k x l) ∙ e)))
    ∙ sum_at-append a b (take k xs) (x ∷ [])
    ∙ ap (λ (z : ℤ). z +ℤ (cond (is_at a b x) (edge_sign x) (pos 0) +ℤ pos 0)) (w.sums a b ∙ ap (λ (o : Option SignedEdge). cond (is_next a b o) sum (pos 0)) e)
    ∙ merged (is_at a b x) sum (edge_sign x)
  where
    merged : (t : Bool) (s v : ℤ) → cond t s (pos 0) +ℤ (cond t v (pos 0) +ℤ pos 0) ≡ cond t (s +ℤ v) (pos 0)
    merged true s v = omega (arith, ints)
    merged false s v = omega (arith, ints)

weight_small : (x : SignedEdge) → nat_abs (edge_sign x) ≤ 1
weight_small x = by x.forward
  where
    by : (t : Bool) → nat_abs (cond t (pos 1) (negsuc 0)) ≤ 1
    by true = omega (arith, ints)
    by false = omega (arith, ints)

sum_small : (s v : ℤ) (k : ℕ) → nat_abs s ≤ k → nat_abs v ≤ 1 → nat_abs (s +ℤ v) ≤ k + 1
sum_small s v k h g = omega (arith, ints)

-- a sum of 0 goes on, whatever stands next
pub walk_zero : (xs : List SignedEdge) (k : ℕ) (sum : ℤ) (x : SignedEdge) → WalkAt xs k sum → slice_get xs k ≡ Some x → sum +ℤ edge_sign x ≡ pos 0 → WalkAt xs (k + 1) (sum +ℤ edge_sign x)
walk_zero xs k sum x w e z = record {
  sums = λ a b. step_sum xs k sum x w e (slice_get_within xs k x e) a b ∙ zeros (is_at a b x) (is_next a b (slice_get xs (k + 1))) (sum +ℤ edge_sign x) z;
  small = sum_small sum (edge_sign x) k w.small (weight_small x);
}
  where
    zeros : (s t : Bool) (v : ℤ) → v ≡ pos 0 → cond s v (pos 0) ≡ cond t v (pos 0)
    zeros true true v z = refl
    zeros true false v z = z
    zeros false true v z = sym z
    zeros false false v z = refl

-- a run that does not end goes on
pub walk_on : (xs : List SignedEdge) (k : ℕ) (sum : ℤ) (x : SignedEdge) → WalkAt xs k sum → slice_get xs k ≡ Some x → (EndsRun xs k → ⊥) → WalkAt xs (k + 1) (sum +ℤ edge_sign x)
walk_on xs k sum x w e not = record {
  sums = λ a b. step_sum xs k sum x w e (slice_get_within xs k x e) a b ∙ ap (λ (t : Bool). cond t (sum +ℤ edge_sign x) (pos 0)) (next (slice_get xs (k + 1)) refl a b);
  small = sum_small sum (edge_sign x) k w.small (weight_small x);
}
  where
    next : (o : Option SignedEdge) → slice_get xs (k + 1) ≡ o → (a b : Point) → is_at a b x ≡ is_next a b o
    next None f a b = absurd (not (λ y z g h. clash z (sym f ∙ h)))
      where
        clash : {P : Type 0} (z : SignedEdge) → None ≡ Some z → P
        clash z g = cc
    next (Some y) f a b = by (same_ends x y) refl
      where
        by : (t : Bool) → same_ends x y ≡ t → is_at a b x ≡ is_at a b y
        by true t = same_at x y t a b
        by false t = absurd (not (λ u v g h. ap₂ (λ (p q : SignedEdge). same_ends p q) (same_Some u x (sym g ∙ e)) (same_Some v y (sym h ∙ f)) ∙ t))

-- past the last edge, the signs between any two points add up to 0
pub walk_all : (xs : List SignedEdge) (k : ℕ) (sum : ℤ) → length xs ≤ k → WalkAt xs k sum → SumsAreZero xs
walk_all xs k sum l w a b = ap (sum_at a b) (sym (take_all k xs l)) ∙ w.sums a b ∙ ap (λ (o : Option SignedEdge). cond (is_next a b o) sum (pos 0)) (slice_get_past xs k l)

none_at : (a b : Point) (xs : List SignedEdge) → ((m : ℕ) (z : SignedEdge) → slice_get xs m ≡ Some z → is_at a b z ≡ false) → sum_at a b xs ≡ pos 0
none_at a b [] h = refl
none_at a b (x ∷ xs) h = by (is_at a b x) (h 0 x refl) (none_at a b xs (λ m z e. h (suc m) z e))
  where
    by : (t : Bool) → t ≡ false → sum_at a b xs ≡ pos 0 → cond t (edge_sign x) (pos 0) +ℤ sum_at a b xs ≡ pos 0
    by true e f = cc
    by false e f = zero_more (sum_at a b xs) f
      where
        zero_more : (s : ℤ) → s ≡ pos 0 → pos 0 +ℤ s ≡ pos 0
        zero_more s f = omega (arith, ints)

get-drop : (xs : List SignedEdge) (n m : ℕ) → slice_get (drop n xs) m ≡ slice_get xs (n + m)
get-drop xs zero m = ap (slice_get xs) (same m)
  where
    same : (m : ℕ) → m ≡ 0 + m
    same m = omega arith
get-drop [] (suc n) m = refl
get-drop (x ∷ xs) (suc n) m = get-drop xs n m ∙ ap (slice_get (x ∷ xs)) (moved n m)
  where
    moved : (n m : ℕ) → suc (n + m) ≡ suc n + m
    moved n m = omega arith

-- a run that ends with another sum than 0
pub walk_fault : (xs : List SignedEdge) (k : ℕ) (sum : ℤ) (x : SignedEdge) → IsGrouped xs → WalkAt xs k sum
    → slice_get xs k ≡ Some x → (sum +ℤ edge_sign x ≡ pos 0 → ⊥) → EndsRun xs k → SumsAreZero xs → ⊥
walk_fault xs k sum x g w e not ends zero_all =
    not (closed (sum_at x.low x.high (take (k + 1) xs)) (sum_at x.low x.high (drop (k + 1) xs)) (sum +ℤ edge_sign x) here
    (none_at x.low x.high (drop (k + 1) xs) later)
    (sym (sum_at-append x.low x.high (take (k + 1) xs) (drop (k + 1) xs))
    ∙ ap (sum_at x.low x.high) (take-append-drop (k + 1) xs) ∙ zero_all x.low x.high))
  where
    closed : (p q v : ℤ) → p ≡ v → q ≡ pos 0 → p +ℤ q ≡ pos 0 → v ≡ pos 0
    closed p q v f h i = omega (arith, ints)

    here : sum_at x.low x.high (take (k + 1) xs) ≡ sum +ℤ edge_sign x
    here = step_sum xs k sum x w e (slice_get_within xs k x e) x.low x.high ∙ ap (λ (t : Bool). cond t (sum +ℤ edge_sign x) (pos 0)) (at_itself x)

    later : (m : ℕ) (z : SignedEdge) → slice_get (drop (k + 1) xs) m ≡ Some z → is_at x.low x.high z ≡ false
    later m z f = by (same_ends x z) refl
      where
        at_z : slice_get xs (k + 1 + m) ≡ Some z
        at_z = sym (get-drop xs (k + 1) m) ∙ f

        inside : k + 1 < length xs
        inside = let l = slice_get_within xs (k + 1 + m) z at_z in omega arith

        at_y : slice_get xs (k + 1) ≡ Some (get_or xs (k + 1) z)
        at_y = slice_get-get_or xs (k + 1) z inside

        clash : (p : Bool) → p ≡ true → p ≡ false → ⊥
        clash p u v = cc

        by : (t : Bool) → same_ends x z ≡ t → t ≡ false
        by false t = refl
        by true t = absurd (either m at_z)
          where
            either : (n : ℕ) → slice_get xs (k + 1 + n) ≡ Some z → ⊥
            either zero h = clash (same_ends x z) t (ends x z e (ap (slice_get xs) (same k) ∙ h))
              where
                same : (k : ℕ) → k + 1 ≡ k + 1 + 0
                same k = omega arith
            either (suc n) h = clash (same_ends x (get_or xs (k + 1) z))
                (g k (k + 1) (k + 1 + suc n) x (get_or xs (k + 1) z) z (omega arith) (omega arith) e at_y h t)
                (ends x (get_or xs (k + 1) z) e at_y)

-- ---- sums in another order: the forward and the backward edges, counted
abbrev ahead : Point → Point → SignedEdge → ℕ
ahead a b x = cond (is_at a b x) (cond x.forward 1 0) 0

abbrev back : Point → Point → SignedEdge → ℕ
back a b x = cond (is_at a b x) (cond x.forward 0 1) 0

counted : (a b : Point) (xs : List SignedEdge) → sum_at a b xs ≡ pos (sum_by (ahead a b) xs) -ℤ pos (sum_by (back a b) xs)
counted a b [] = refl
counted a b (x ∷ xs) = by (is_at a b x) x.forward (sum_at a b xs) (sum_by (ahead a b) xs) (sum_by (back a b) xs)
    (sum_by (ahead a b) (x ∷ xs)) (sum_by (back a b) (x ∷ xs)) (counted a b xs) (sum_by-cons (ahead a b) x xs)
    (sum_by-cons (back a b) x xs)
  where
    by : (s t : Bool) (v : ℤ) (m n k l : ℕ) → v ≡ pos m -ℤ pos n → k ≡ cond s (cond t 1 0) 0 + m → l ≡ cond s (cond t 0 1) 0 + n → cond s (cond t (pos 1) (negsuc 0)) (pos 0) +ℤ v ≡ pos k -ℤ pos l
    by true true v m n k l e f g = omega (arith, ints)
    by true false v m n k l e f g = omega (arith, ints)
    by false true v m n k l e f g = omega (arith, ints)
    by false false v m n k l e f g = omega (arith, ints)

-- the sum of the signs between a and b is the same in any order of the edges
pub sum_at-permutation : (a b : Point) (xs ys : List SignedEdge) → IsPermutation xs ys → sum_at a b ys ≡ sum_at a b xs
sum_at-permutation a b xs ys p = counted a b ys ∙ ap₂ (λ (m n : ℕ). pos m -ℤ pos n) (sum_by-IsPermutation (ahead a b) xs ys p) (sum_by-IsPermutation (back a b) xs ys p) ∙ sym (counted a b xs)
