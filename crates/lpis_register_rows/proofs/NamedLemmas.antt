-- Rows in the order of their identifiers.
use Rattle.std.proofs.Common.{◌≡◌, ◌∙◌, ◌<◌, ◌≤◌, ◌+◌, inl, inr, refl, sym, ap, ap₂, arith, ℕ, zero, suc, List, [], ◌∷◌, Bool, true, false, ◌||◌, cond, length, map, get_or, filter}
use Rattle.std.proofs.Common.{Ordering, Less, Equal, Greater, is_lt, is_ge, is_eq, nat_cmp, IsSortedByKey}
use Rattle.lpis_register_rows.proofs.Common.{AllByRecursion, before-at-after, filter-none, has_id, same-exact, same-refl, same_id, slice_cmp, KnownSpan}
use Rattle.std.specs.Cmp.Lexicographic.{nat_list_cmp_total, texts_ties}
use Rattle.std.specs.List.{IsDistinct}
use Rattle.std.specs.Ordering.{ordering_reverse}
use Rattle.std.proofs.lemmas.Bool.{or_parts}
use Rattle.std.proofs.lemmas.List.{get_or_default}
use Rattle.std.proofs.lemmas.Map.Keys.{Less-from_sorted, apart_from_distinct, sorted_from_all_adjacent, sorted_head, sorted_tail}
use Rattle.lpis_lineage.proofs.Shared.{filter-some}
use Rattle.lpis_lineage.specs.Order.{IsAscending}

-- a comparison that is neither equal nor greater is less
pub not-ge : (r : Ordering) → is_ge r ≡ false → r ≡ Less
not-ge Less e = refl
not-ge Equal e = cc e
not-ge Greater e = cc e

-- the identifiers before a position ascend
abbrev pub AscendBefore : List (List ℕ) → ℕ → Type 0
AscendBefore ids n = (k : ℕ) → k + 1 < n → slice_cmp nat_cmp (get_or ids k []) (get_or ids (k + 1) []) ≡ Less

module _ {A : Type 0} (f : A → List ℕ) where
  id-at : (rows : List A) (i : ℕ) (row : A) → i < length rows → row ≡ get_or rows i row → get_or (map f rows) i [] ≡ f row
  id-at [] i row lt at = absurd (omega (arith, lt))
  id-at (r ∷ rows) zero row lt at = ap f (sym at)
  id-at (r ∷ rows) (suc i) row lt at = id-at rows i row (omega (arith, lt)) at

  ids-length : (rows : List A) → length (map f rows) ≡ length rows
  ids-length [] = refl
  ids-length (r ∷ rows) = ap suc (ids-length rows)

  -- two neighbours, the first at the position before
  pair-at : (rows : List A) (before n : ℕ) (a b : A) → before + 1 ≡ n → n < length rows → a ≡ get_or rows before a → b ≡ get_or rows n b
      → slice_cmp nat_cmp (get_or (map f rows) before []) (get_or (map f rows) n []) ≡ slice_cmp nat_cmp (f a) (f b)
  pair-at rows before n a b e lt at here = ap₂ (λ (x y : List ℕ). slice_cmp nat_cmp x y) (id-at rows before a (omega (arith, e, lt)) at) (id-at rows n b lt here)

  -- identifiers that ascend before a position do so up to it, where its row is above the one before
  pub ascend-more : (rows : List A) (before n : ℕ) (a b : A) → before + 1 ≡ n → n < length rows → a ≡ get_or rows before a → b ≡ get_or rows n b
      → slice_cmp nat_cmp (f a) (f b) ≡ Less → AscendBefore (map f rows) n → AscendBefore (map f rows) (n + 1)
  ascend-more rows before n a b e lt at here less up k kn = elim (before-at-after (k + 1) n)
      as (λ _. slice_cmp nat_cmp (get_or (map f rows) k []) (get_or (map f rows) (k + 1) []) ≡ Less) [
        | inl l ↦ up k l
        | inr r ↦ elim r as (λ _. slice_cmp nat_cmp (get_or (map f rows) k []) (get_or (map f rows) (k + 1) []) ≡ Less) [
          | inl same ↦
              let k-is : k ≡ before = omega (arith, same, e) in
              ap₂ (λ (i j : ℕ). slice_cmp nat_cmp (get_or (map f rows) i []) (get_or (map f rows) j [])) k-is same
              ∙ pair-at rows before n a b e lt at here ∙ less
          | inr g ↦ absurd (omega (arith, kn, g))
        ]
      ]

  -- identifiers that ascend before a position at or past the end ascend as a whole
  pub ascend-whole : (rows : List A) (n : ℕ) → length rows ≤ n → AscendBefore (map f rows) n → IsAscending (map f rows)
  ascend-whole rows n le up = sorted_from_all_adjacent nat_list_cmp_total (map f rows) [] (λ k lt. up k (let e = ids-length rows in omega (arith, lt, e, le)))

  -- of rows whose identifiers ascend, each is below the next one
  pub ascend-pair : (rows : List A) (before n : ℕ) (a b : A) → before + 1 ≡ n → n < length rows → a ≡ get_or rows before a → b ≡ get_or rows n b
      → IsAscending (map f rows) → slice_cmp nat_cmp (f a) (f b) ≡ Less
  ascend-pair rows before n a b e lt at here up = sym (pair-at rows before n a b e lt at here)
      ∙ Less-from_sorted (slice_cmp nat_cmp) (map f rows) before n [] up (omega (arith, e)) (let l = ids-length rows in omega (arith, l, lt))

less-apart : (r : Ordering) → is_lt (ordering_reverse r) ≡ false → is_eq r ≡ false → r ≡ Less
less-apart Less a b = refl
less-apart Equal a b = cc b
less-apart Greater a b = cc a

-- what is sorted, with no identifier twice, ascends
pub sorted-ascends : {A : Type 0} (f : A → List ℕ) (sorted : List A) → IsDistinct same_id (map f sorted) → IsSortedByKey f (slice_cmp nat_cmp) sorted → IsAscending (map f sorted)
sorted-ascends {A = A} f sorted distinct up = sorted_from_all_adjacent nat_list_cmp_total ids [] less where
  ids : List (List ℕ)
  ids = map f sorted

  at : (i : ℕ) (d : A) → i < length sorted → get_or ids i [] ≡ f (get_or sorted i d)
  at i d lt = id-at f sorted i (get_or sorted i d) lt (get_or_default sorted i d (get_or sorted i d) lt)

  first : (l : List A) → 0 < length l → A
  first [] lt = absurd (omega (arith, lt))
  first (x ∷ l) lt = x

  less : (k : ℕ) → k + 1 < length ids → slice_cmp nat_cmp (get_or ids k []) (get_or ids (k + 1) []) ≡ Less
  less k lt =
      let n = ids-length f sorted in
      let d : A = first sorted (omega (arith, n, lt)) in
      let a = get_or ids k [] in
      let b = get_or ids (k + 1) [] in
      let not-below : is_lt (slice_cmp nat_cmp b a) ≡ false =
      ap₂ (λ (x y : List ℕ). is_lt (slice_cmp nat_cmp x y)) (at (k + 1) d (omega (arith, n, lt))) (at k d (omega (arith, n, lt))) ∙ up k d (omega arith) (omega (arith, n, lt)) in
      less-apart (slice_cmp nat_cmp a b) (ap is_lt (sym (nat_list_cmp_total.antisymm b a)) ∙ not-below)
      (sym (texts_ties a b) ∙ apart_from_distinct same_id ids k (k + 1) [] distinct (omega arith) lt)

-- ---- spans

none-same : (x : List ℕ) (ids : List (List ℕ)) → AllByRecursion (λ y. slice_cmp nat_cmp x y ≡ Less) ids → has_id ids x ≡ false
none-same x [] all = refl
none-same x (y ∷ ids) all = ap₂ (λ (a b : Bool). a || b) (texts_ties x y ∙ ap is_eq all.0) (none-same x ids all.1)

-- of identifiers that ascend none is there twice
few-ids : (ids : List (List ℕ)) → IsAscending ids → (q : List ℕ) → length (filter (same_id q) ids) ≤ 1
few-ids [] up q = omega arith
few-ids (x ∷ ids) up q = by (same_id q x) refl (few-ids ids (sorted_tail (slice_cmp nat_cmp) x ids up) q) where
  by : (b : Bool) → b ≡ same_id q x → length (filter (same_id q) ids) ≤ 1 → length (filter (same_id q) (x ∷ ids)) ≤ 1
  by true e few =
      let absent : has_id ids q ≡ false = ap (has_id ids) (same-exact q x (sym e)) ∙ none-same x ids (sorted_head (slice_cmp nat_cmp) x ids up) in
      let none = filter-none (same_id q) ids absent in
      let n = ap (λ (b : Bool). length (cond b (x ∷ filter (same_id q) ids) (filter (same_id q) ids))) (sym e) in
      omega (arith, none, n)
  by false e few = let n = ap (λ (b : Bool). length (cond b (x ∷ filter (same_id q) ids) (filter (same_id q) ids))) (sym e) in omega (arith, few, n)

-- what is not among identifiers differs from each
apart-from : (x : List ℕ) (ids : List (List ℕ)) → has_id ids x ≡ false → AllByRecursion (λ y. same_id x y ≡ false) ids
apart-from x [] none = tt
apart-from x (y ∷ ids) none = let parts = or_parts (same_id x y) (has_id ids x) none in (parts.0, apart-from x ids parts.1)

-- and identifiers of which none is there twice differ
apart-ids : (ids : List (List ℕ)) → ((q : List ℕ) → length (filter (same_id q) ids) ≤ 1) → IsDistinct same_id ids
unfolding IsDistinct
apart-ids [] few = tt
apart-ids (x ∷ ids) few = (apart-from x ids (absent (has_id ids x) refl), apart-ids ids (λ q. fewer q (same_id q x) refl)) where
  here : length (filter (same_id x) (x ∷ ids)) ≡ suc (length (filter (same_id x) ids))
  here = ap (λ (b : Bool). length (cond b (x ∷ filter (same_id x) ids) (filter (same_id x) ids))) (same-refl x)

  absent : (b : Bool) → b ≡ has_id ids x → has_id ids x ≡ false
  absent true e = absurd (let some = filter-some (same_id x) ids (sym e) in let n = here in let f = few x in omega (arith, some, n, f))
  absent false e = sym e

  fewer : (q : List ℕ) (b : Bool) → b ≡ same_id q x → length (filter (same_id q) ids) ≤ 1
  fewer q true e = let n = ap (λ (b : Bool). length (cond b (x ∷ filter (same_id q) ids) (filter (same_id q) ids))) (sym e) in let f = few q in omega (arith, n, f)
  fewer q false e = let n = ap (λ (b : Bool). length (cond b (x ∷ filter (same_id q) ids) (filter (same_id q) ids))) (sym e) in let f = few q in omega (arith, n, f)

-- as many spans bear an identifier as it is there among theirs
count-ids : (spans : List KnownSpan) (q : List ℕ) → length (filter (λ s. same_id q s.id) spans) ≡ length (filter (same_id q) (map (λ s. s.id) spans))
count-ids [] q = refl
count-ids (s ∷ spans) q = by (same_id q s.id) refl (count-ids spans q) where
  by : (b : Bool) → b ≡ same_id q s.id → length (filter (λ s. same_id q s.id) spans) ≡ length (filter (same_id q) (map (λ s. s.id) spans))
      → length (filter (λ s. same_id q s.id) (s ∷ spans)) ≡ length (filter (same_id q) (map (λ s. s.id) (s ∷ spans)))
  by true e more = rw (← e) (ap suc more)
  by false e more = rw (← e) more

-- spans that ascend bear each identifier once
pub spans-once : (spans : List KnownSpan) → IsAscending (map (λ s. s.id) spans) → (q : List ℕ) → length (filter (λ s. same_id q s.id) spans) ≤ 1
spans-once spans up q = let n = count-ids spans q in let few = few-ids (map (λ s. s.id) spans) up q in omega (arith, n, few)

-- and spans that are sorted, each identifier once, ascend
pub spans-ascend : (spans : List KnownSpan) → IsSortedByKey (λ (s : KnownSpan). s.id) (slice_cmp nat_cmp) spans → ((q : List ℕ) → length (filter (λ s. same_id q s.id) spans) ≤ 1)
    → IsAscending (map (λ s. s.id) spans)
spans-ascend spans up few = sorted-ascends (λ (s : KnownSpan). s.id) spans
    (apart-ids (map (λ s. s.id) spans) (λ q. let n = count-ids spans q in let f = few q in omega (arith, n, f))) up
