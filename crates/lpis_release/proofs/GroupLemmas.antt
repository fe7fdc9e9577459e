-- The joins of one parcel among those of all.
use Rattle.std.proofs.Common.{◌≡◌, ◌≤◌, ◌<◌, ◌+◌, ◌-◌, ◌++◌, ◌∷◌, ◌==◌, [], ℕ, zero, suc, List, length, length-drop, get_or-drop, take, drop, filter, get_or, ◌⊎◌, inl, inr, append-nil}
use Rattle.std.proofs.Common.{Bool, true, false, not, ◌&&◌, cond, refl, ap, sym, ◌∙◌, arith, nat_lt, nat_le, nat_cmp, is_lt}
use Rattle.lpis_release.proofs.Common.{Join, joined_pieces}
use Rattle.std.proofs.lemmas.Bool.Decides.{nat_tests}
use Rattle.std.proofs.lemmas.List.{map-append}
use Rattle.std.proofs.lemmas.List.Elements.{filter-append}
use Rattle.std.specs.List.Sorted.{IsNonDecreasingBy, IsPartitionPoint, IsPartitionedBy, IsStableByKey, ties}
use Rattle.std.proofs.lemmas.Bool.{cases_lt}
use Rattle.lpis_release.specs.private.Groups.{group_at, is_of_parcel}

-- an index is from s on and before e
between : ℕ → ℕ → ℕ → Bool
between s e i = nat_le s i && nat_lt i e

none-of : {A : Type 0} (s n : ℕ) → take n (drop {A = A} s []) ≡ []
none-of zero zero = refl
none-of zero (suc n) = refl
none-of (suc s) zero = refl
none-of (suc s) (suc n) = refl

here : {A : Type 0} (p : A → Bool) (x : A) (xs : List A) (b : Bool) → p x ≡ b → filter p (x ∷ xs) ≡ cond b (x ∷ filter p xs) (filter p xs)
here p x xs b e = rw e refl

-- where a test holds from s up to e alone, the items that pass it stand there
filter-run : {A : Type 0} (p : A → Bool) (xs : List A) (s n : ℕ) → ((i : ℕ) (d : A) → i < length xs → p (get_or xs i d) ≡ between s (s + n) i) → take n (drop s xs) ≡ filter p xs
unfolding between
filter-run p [] s n h = none-of s n
filter-run p (x ∷ xs) zero zero h =
    filter-run p xs zero zero (λ i d lt. h (suc i) d (omega arith) ∙ grind (arith, nat_tests)) ∙ sym (here p x xs false (h 0 x (omega arith) ∙ grind (arith, nat_tests)))
filter-run {A} p (x ∷ xs) zero (suc n) h =
    ap (λ (l : List A). x ∷ l) (filter-run p xs zero n (λ i d lt. h (suc i) d (omega arith) ∙ grind (arith, nat_tests)))
    ∙ sym (here p x xs true (h 0 x (omega arith) ∙ grind (arith, nat_tests)))
filter-run p (x ∷ xs) (suc s) n h =
    filter-run p xs s n (λ i d lt. h (suc i) d (omega arith) ∙ grind (arith, nat_tests)) ∙ sym (here p x xs false (h 0 x (omega arith) ∙ grind (arith, nat_tests)))

-- what stands between two partition points
abbrev pub IsStart : List Join → ℕ → ℕ → Type 0
IsStart xs k = IsPartitionPoint (λ (j : Join). nat_lt j.parcel k ≡ true) (λ (j : Join). nat_lt j.parcel k ≡ false) xs

-- so many joins at the front of the rest are of the parcel k, and none of those behind them
abbrev pub IsCount : List Join → ℕ → ℕ → Type 0
IsCount rest k = IsPartitionPoint (λ (j : Join). is_of_parcel k j ≡ true) (λ (j : Join). is_of_parcel k j ≡ false) rest

-- in joins sorted by parcels, those of parcels below k all stand in front
pub start-parts : (xs : List Join) (k : ℕ) → IsNonDecreasingBy (λ (j : Join). j.parcel) xs → IsPartitionedBy (λ (j : Join). nat_lt j.parcel k) xs
start-parts xs k up i j d le lt e = let rise = up i j d le lt in grind (arith, nat_tests)

parcel_between : (x y k : ℕ) → x ≤ y → nat_lt x k ≡ false → (y == k) ≡ true → (x == k) ≡ true
parcel_between x y k le a b = grind (arith, nat_tests)

-- in joins sorted by parcels, without those of parcels below k, those of k all stand in front
pub group-parts : (xs : List Join) (k s : ℕ) → IsNonDecreasingBy (λ (j : Join). j.parcel) xs → IsStart xs k s → IsPartitionedBy (is_of_parcel k) (drop s xs)
group-parts xs k s up start i j d le lt e =
    let within : s + j < length xs = omega (arith, length-drop s xs) in
    let rise = up (s + i) (s + j) d (omega arith) within in
    rw (get_or-drop s xs i d) (parcel_between (get_or xs (s + i) d).parcel (get_or xs (s + j) d).parcel k rise (start.1 (s + i) d (omega arith) (omega arith)) (rw (get_or-drop s xs j d) at e))

early : (x k s n i : ℕ) → i < s → nat_lt x k ≡ true → (x == k) ≡ (nat_le s i && nat_lt i (s + n))
early x k s n i lt a = grind (arith, nat_tests)

among : (b : Bool) (s n i : ℕ) → s ≤ i → i < s + n → b ≡ true → b ≡ (nat_le s i && nat_lt i (s + n))
among b s n i le lt e = grind (arith, nat_tests)

late : (b : Bool) (s n i : ℕ) → s + n ≤ i → b ≡ false → b ≡ (nat_le s i && nat_lt i (s + n))
late b s n i le e = grind (arith, nat_tests)

-- the joins from the start of the parcel k on, as many as are counted, are all joins of k in their order
pub group-found : (xs : List Join) (k s n : ℕ) → IsStart xs k s → IsCount (drop s xs) k n → n ≤ length (drop s xs) → take n (drop s xs) ≡ filter (is_of_parcel k) xs
unfolding between
group-found xs k s n start count within = filter-run (is_of_parcel k) xs s n value where
  moved : (i : ℕ) (d : Join) → s ≤ i → get_or (drop s xs) (i - s) d ≡ get_or xs i d
  moved i d le = let n : s + (i - s) ≡ i = omega arith in get_or-drop s xs (i - s) d ∙ ap (λ (m : ℕ). get_or xs m d) n

  value : (i : ℕ) (d : Join) → i < length xs → is_of_parcel k (get_or xs i d) ≡ between s (s + n) i
  value i d lt = by (cases_lt i s) (cases_lt i (s + n)) where
    by : (i < s) ⊎ (s ≤ i) → (i < s + n) ⊎ (s + n ≤ i) → is_of_parcel k (get_or xs i d) ≡ between s (s + n) i
    by (inl a) _ = early (get_or xs i d).parcel k s n i a (start.0 i d (omega arith) a)
    by (inr a) (inl b) = among _ s n i a b (rw (moved i d a) at (count.0 (i - s) d (omega arith) (omega arith)))
    by (inr a) (inr b) = late _ s n i b (rw (moved i d a) at (count.1 (i - s) d (omega arith) (omega (arith, length-drop s xs))))

-- one join more
pub group-more : (joins : List Join) (j : Join) (k : ℕ) → group_at (joins ++ j ∷ []) k ≡ cond (j.parcel == k) (group_at joins k ++ j.piece ∷ []) (group_at joins k)
group-more joins j k =
    ap joined_pieces (filter-append (is_of_parcel k) joins (j ∷ [])) ∙ map-append (λ (j : Join). j.piece) (filter (is_of_parcel k) joins) (filter (is_of_parcel k) (j ∷ [])) ∙ by (j.parcel == k) refl
  where
    by : (b : Bool) → (j.parcel == k) ≡ b → group_at joins k ++ joined_pieces (cond (j.parcel == k) (j ∷ []) []) ≡ cond b (group_at joins k ++ j.piece ∷ []) (group_at joins k)
    by true e = rw e refl
    by false e = rw e (append-nil _)

-- a stable sort by parcels keeps the joins of each
same-filter : {A : Type 0} (p q : A → Bool) (xs : List A) → ((x : A) → p x ≡ q x) → filter p xs ≡ filter q xs
same-filter p q [] h = refl
same-filter {A} p q (x ∷ xs) h = let rest = same-filter p q xs h in rw (h x, rest) refl

tie : (a k : ℕ) → (not (is_lt (nat_cmp k a)) && not (is_lt (nat_cmp a k))) ≡ (a == k)
tie a k = grind (arith, nat_tests)

-- a stable sort of joins by their parcels keeps the pieces of each parcel in their order
pub groups-kept : (old new : List Join) → IsStableByKey (λ (j : Join). j.parcel) nat_cmp old new → (k : ℕ) → group_at new k ≡ group_at old k
groups-kept old new stable k =
    let ties_of : (j : Join) → ties (λ (x y : Join). is_lt (nat_cmp x.parcel y.parcel)) (record { parcel = k; piece = 0 }) j ≡ is_of_parcel k j = λ j. tie j.parcel k in
    ap joined_pieces (sym (same-filter _ _ new ties_of) ∙ stable (record { parcel = k; piece = 0 }) ∙ same-filter _ _ old ties_of)
