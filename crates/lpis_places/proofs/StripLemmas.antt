-- Strips never fall from left to right.
use Rattle.std.proofs.Common.{◌≡◌, ℕ, ◌<◌, ◌≤◌, ℤ, pos, ◌≤ℤ◌, ◌<ℤ◌, int_le, true, false, List, length, get_or, ◌⊎◌, inl, inr, arith, is_lt}
use Rattle.std.specs.Ordering.{int_cmp}
use Rattle.std.specs.List.Sorted.{IsPartitionPoint, IsPartitionedBy, IsSortedByKey}
use Rattle.std.proofs.lemmas.Bool.{cases_lt}
use Rattle.std.proofs.lemmas.Cmp.{int_cmp_total}
use Rattle.std.proofs.lemmas.Int.{ints}
use Rattle.std.proofs.lemmas.List.Sorted.{ranks_by, sorted_far}
use Rattle.lpis_places.specs.declared.grid.Grid.{Grid}
use Rattle.lpis_places.specs.private.Starts.{AreRising, IsStripIn}
use Rattle.lpis_places.specs.private.Strips.{IsStripOf}

-- ---- where they begin
-- what starts are sorted by
abbrev pub start_key : ℤ → ℤ
start_key x = x

not_less : (x y : ℤ) → is_lt (int_cmp y x) ≡ false → x ≤ℤ y
not_less x y e = grind (arith, ints)

-- sorted numbers rise
pub sorted_rise : (xs : List ℤ) → IsSortedByKey start_key int_cmp xs → AreRising xs
sorted_rise xs sorted k m d l h =
    not_less (get_or xs k d) (get_or xs m d)
    (sorted_far (λ (x y : ℤ). is_lt (int_cmp (start_key x) (start_key y))) (ranks_by int_cmp_total start_key) xs sorted k m d l h)

le_too : (x y z : ℤ) → x ≤ℤ y → int_le y z ≡ true → int_le x z ≡ true
le_too x y z h e = grind (arith, ints)

-- those that are not right of an x are all in front
pub starts_parted : (xs : List ℤ) (x : ℤ) → AreRising xs → IsPartitionedBy (λ (s : ℤ). int_le s x) xs
starts_parted xs x up i j d l h e = le_too (get_or xs i d) (get_or xs j d) x (up i j d l h) e

says_le : (x y : ℤ) → int_le x y ≡ true → x ≤ℤ y
says_le x y e = grind (arith, ints)

says_gt : (x y : ℤ) → int_le x y ≡ false → y <ℤ x
says_gt x y e = grind (arith, ints)

-- where they end
pub strip_there : (xs : List ℤ) (x : ℤ) (n : ℕ) → n ≤ length xs → IsPartitionPoint (λ (s : ℤ). int_le s x ≡ true) (λ (s : ℤ). int_le s x ≡ false) xs n → IsStripIn xs x n
strip_there xs x n within point = record {
  within = within;
  left = λ k d l. says_le (get_or xs k d) x (point.0 k d (omega arith) l);
  right = λ k d l h. says_gt (get_or xs k d) x (point.1 k d l h);
}

-- ---- strips
between : (l x y : ℤ) → x ≤ℤ y → l ≤ℤ x → y <ℤ l → ⊥
between l x y h i j = omega (arith, ints)

-- what is not left of an x is not in an earlier strip
pub strips_rise : (g : Grid) (x y : ℤ) (n m : ℕ) → x ≤ℤ y → IsStripOf g x n → IsStripOf g y m → n ≤ m
strips_rise g x y n m l a b = by (cases_lt m n)
  where
    by : (m < n) ⊎ (n ≤ m) → n ≤ m
    by (inr h) = h
    by (inl h) = absurd (between (get_or g.starts.items m (pos 0)) x y l (a.left m (pos 0) h) (b.right m (pos 0) (omega arith) (omega (arith, a.within))))
