-- Pairs ascending by the first number and then by the second, sorted and with no doubles.
use Rattle.std.proofs.Common.{◌≡◌, ℕ, Bool, true, eqb, ◌&&◌, List, Ordering, Less, ap, ap₂, sym, ◌∙◌, arith, Contains, IsSorted, nat_cmp}
use Rattle.lpis_pairs.proofs.Common.{nat_tests, slice_get_within, get_or_from_slice_get}
use Rattle.std.specs.Cmp.{IsTotalOrder, IsEquivalence}
use Rattle.std.specs.List.{dedup}
use Rattle.std.specs.Ordering.{ordering_then, eq_by_cmp}
use Rattle.std.proofs.lemmas.Cmp.{nat_cmp_total, on_total, then_total}
use Rattle.std.proofs.lemmas.List.Kept.{Contains-dedup, Contains-from_dedup, IsStrictlySortedBy-dedup}
use Rattle.std.proofs.lemmas.Map.Keys.{Less-from_sorted}
use Rattle.lpis_pairs.specs.NearPairs.{IsBelow}
use Rattle.lpis_pairs.specs.private.Sweeping.{IsRising}

-- the derived order and test of pairs
abbrev pub pair_cmp : ℕ × ℕ → ℕ × ℕ → Ordering
pair_cmp x y = ordering_then (nat_cmp x.0 y.0) (nat_cmp x.1 y.1)

-- whether both numbers of two pairs are equal
abbrev pub pair_eq : ℕ × ℕ → ℕ × ℕ → Bool
pair_eq x y = eqb x.0 y.0 && eqb x.1 y.1

pair_cmp-total : IsTotalOrder pair_cmp
pair_cmp-total = then_total (on_total (λ (p : ℕ × ℕ). p.0) nat_cmp_total) (on_total (λ (p : ℕ × ℕ). p.1) nat_cmp_total)

numbers_tie : (a b c d : ℕ) → (eqb a c && eqb b d) ≡ eq_by_cmp pair_cmp (a, b) (c, d)
numbers_tie a b c d = grind (arith, nat_tests)

ties : (x y : ℕ × ℕ) → pair_eq x y ≡ eq_by_cmp pair_cmp x y
ties x y = numbers_tie x.0 x.1 y.0 y.1

numbers_equal : (a b c d : ℕ) → (eqb a c && eqb b d) ≡ true → (a ≡ c) × (b ≡ d)
numbers_equal a b c d e = (grind (arith, nat_tests), grind (arith, nat_tests))

-- pairs that the test takes for equal are
pub exact : (x y : ℕ × ℕ) → pair_eq x y ≡ true → x ≡ y
exact x y e = let h = numbers_equal x.0 x.1 y.0 y.1 e in ap₂ (λ (a b : ℕ). (a, b)) h.0 h.1

one_test : (a b : ℕ) → (eqb a a && eqb b b) ≡ true
one_test a b = grind (arith, nat_tests)

other_way : (a b c d : ℕ) → (eqb a c && eqb b d) ≡ (eqb c a && eqb d b)
other_way a b c d = grind (arith, nat_tests)

-- the test of pairs is one of equality
pub equivalence : IsEquivalence pair_eq
equivalence = record {
  refl = λ x. one_test x.0 x.1;
  symm = λ x y. other_way x.0 x.1 y.0 y.1;
  congr = λ x y z e. ap (λ v. pair_eq v z) (exact x y e);
}

below : (a b c d : ℕ) → pair_cmp (a, b) (c, d) ≡ Less → IsBelow a b c d
below a b c d e = grind (arith, nat_tests)

-- sorted pairs ascend, no two of them equal, once doubles are dropped
pub dedup_is_rising : (ps : List (ℕ × ℕ)) → IsSorted pair_cmp ps → IsRising (dedup pair_eq ps)
dedup_is_rising ps s k m p q l f g =
    let qs = dedup pair_eq ps in
    let e = Less-from_sorted pair_cmp qs k m p (IsStrictlySortedBy-dedup pair_cmp-total ties ps s) l (slice_get_within qs m q g) in
    below p.0 p.1 q.0 q.1 (sym (ap₂ pair_cmp (get_or_from_slice_get qs k p p f) (get_or_from_slice_get qs m q p g)) ∙ e)

-- a pair of a list is still in it once doubles are dropped
pub dedup_keeps_pairs : (ps : List (ℕ × ℕ)) (p : ℕ × ℕ) → Contains ps p → Contains (dedup pair_eq ps) p
dedup_keeps_pairs ps p h = Contains-dedup equivalence exact ps p h

-- a list with its doubles dropped has no pair that was not in it before
pub no_other : (ps : List (ℕ × ℕ)) (p : ℕ × ℕ) → Contains (dedup pair_eq ps) p → Contains ps p
no_other ps p h = Contains-from_dedup pair_eq ps p h
