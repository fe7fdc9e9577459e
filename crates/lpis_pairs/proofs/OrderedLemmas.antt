-- Sorted events run strip by strip, and in a strip by where boxes begin.
use Rattle.std.proofs.Common.{◌≡◌, ℕ, ◌<◌, ◌≤◌, ◌⊎◌, inl, inr, true, false, nat_lt, List, length, arith, get_or, sym, subst, slice_get, Some, IsPermutation}
use Rattle.lpis_pairs.proofs.Common.{Event, Triangle, nat_tests, get_or_from_slice_get, slice_get_within}
use Rattle.std.specs.List.Sorted.{IsNonDecreasingBy, IsPartitionPoint, IsPartitionedBy}
use Rattle.std.proofs.lemmas.List.Sorted.{All-permutation}
use Rattle.std.proofs.lemmas.Option.{slice_get-get_or}
use Rattle.lpis_pairs.specs.private.Sweeping.{AreEvents, AreInOrder, AreSwept, StartsAt}

-- sorted events ascend by strip, and in a strip by where boxes begin
pub in_order : (es : List Event) → IsNonDecreasingBy (λ (e : Event). e.key) es → AreInOrder es
in_order es sorted k m e f l g h =
    let far = sorted k m e (omega arith) (slice_get_within es m f h) in
    subst (λ (x : Event). x.key ≤ f.key) (get_or_from_slice_get es k e e g)
    (subst (λ (x : Event). (get_or es k e).key ≤ x.key) (get_or_from_slice_get es m f e h) far)

-- events of triangles, once they stand in order
pub swept : (ts : List Triangle) (count : ℕ) (before es : List Event) → count ≡ length ts → AreEvents count before → IsPermutation before es
    → AreInOrder es → AreSwept ts es
swept ts count before es e only moved order = record {
  events = All-permutation (λ (x : Event). x.index < length ts) before es moved (subst (λ (n : ℕ). AreEvents n before) e only);
  order = order;
}

-- ---- halving
-- those before a key are all in front
pub parts_at : (es : List Event) (key : ℕ) → AreInOrder es → IsPartitionedBy (λ (e : Event). nat_lt e.key key) es
parts_at es key order i j d l within t = by (cases i j l)
  where
    cases : (x y : ℕ) → x ≤ y → (x < y) ⊎ (x ≡ y)
    cases x y l = grind arith

    less : (a b c : ℕ) → a ≤ b → nat_lt b c ≡ true → nat_lt a c ≡ true
    less a b c l e = grind (arith, nat_tests)

    inside : (x y n : ℕ) → x < y → y < n → x < n
    inside x y n l m = omega arith

    by : (i < j) ⊎ (i ≡ j) → nat_lt (get_or es i d).key key ≡ true
    by (inl m) = less (get_or es i d).key (get_or es j d).key key
        (order i j (get_or es i d) (get_or es j d) m (slice_get-get_or es i d (inside i j _ m within)) (slice_get-get_or es j d within)) t
    by (inr e) = subst (λ (k : ℕ). nat_lt (get_or es k d).key key ≡ true) (sym e) t

-- where they end
pub starts_at : (es : List Event) (key from : ℕ) → IsPartitionPoint (λ (e : Event). nat_lt e.key key ≡ true) (λ (e : Event). nat_lt e.key key ≡ false) es from
    → StartsAt es key from
starts_at es key from point = record {
  behind = λ m f l at. no_less f.key key (subst (λ (x : Event). nat_lt x.key key ≡ false) (get_or_from_slice_get es m f f at) (point.1 m f l (slice_get_within es m f at)));
  before = λ m f at l. by m f at l (cases m from);
}
  where
    no_less : (a b : ℕ) → nat_lt a b ≡ false → b ≤ a
    no_less a b e = grind (arith, nat_tests)

    clash : (a b : ℕ) → b ≤ a → nat_lt a b ≡ true → ⊥
    clash a b l e = grind (arith, nat_tests)

    cases : (x y : ℕ) → (x < y) ⊎ (y ≤ x)
    cases x y = grind arith

    by : (m : ℕ) (f : Event) → slice_get es m ≡ Some f → key ≤ f.key → (m < from) ⊎ (from ≤ m) → from ≤ m
    by m f at l (inr r) = r
    by m f at l (inl r) = absurd (clash f.key key l
        (subst (λ (x : Event). nat_lt x.key key ≡ true) (get_or_from_slice_get es m f f at) (point.0 m f (omega arith) r)))
