-- Points in strips, and in each by y.
use Rattle.std.proofs.Common.{◌≡◌, ℕ, ◌+◌, ◌<◌, ◌≤◌, ◌==◌, ◌&&◌, ◌||◌, ℤ, ◌≤ℤ◌, ◌<ℤ◌, int_lt, Bool, true, false, List}
use Rattle.std.proofs.Common.{[], ◌∷◌, ◌++◌, length, get_or, All, Contains, refl, ap, cond, slice_get, Some, subst, sym, ◌∙◌, arith}
use Rattle.std.proofs.Common.{Ordering, IsPermutation, nat_cmp, nat_lt, is_lt, ◌⊎◌, inl, inr}
use Rattle.std.proofs.lemmas.Bool.{cases_lt}
use Rattle.std.specs.Cmp.{IsTotalOrder}
use Rattle.std.specs.Ordering.{int_cmp, ordering_then}
use Rattle.std.specs.List.Sorted.{IsPartitionPoint, IsPartitionedBy, IsSortedByKey}
use Rattle.std.proofs.lemmas.Cmp.{int_cmp_total, nat_cmp_total, on_total, then_total}
use Rattle.std.proofs.lemmas.Int.{ints}
use Rattle.std.proofs.lemmas.List.Elements.{All-cons, All-contains, All-nil, All-push, Contains-append_cases, Contains-append_left, Contains-append_right}
use Rattle.std.proofs.lemmas.List.Sorted.{All-permutation, Contains-permutation, ranks_by, sorted_far}
use Rattle.std.proofs.lemmas.Option.{same_Some, slice_get-get_or}
use Rattle.lpis_points.specs.Plane.{RationalPoint}
use Rattle.lpis_places.specs.Numbers.{parts}
use Rattle.lpis_places.specs.declared.grid.Grid.{Grid}
use Rattle.lpis_places.specs.declared.index.Slot.{Slot}
use Rattle.lpis_places.specs.Points.{Given}
use Rattle.lpis_places.specs.private.Slots.{ArePut, AreAscending, HasSlots, IsInOrder, IsOrder, IsSlot, StartsAt, stands_before}
use Rattle.lpis_places.specs.private.Strips.{IsInStrip}

-- ---- the order of slots
-- by strip, then by y
abbrev Key : Type 0
Key = ℕ × ℤ

-- what slots are sorted by: the strip, and in it y
abbrev pub slot_key : Slot → Key
slot_key s = (s.strip, s.spot.y)

-- the order of these
abbrev pub key_cmp : Key → Key → Ordering
key_cmp a b = ordering_then (nat_cmp a.0 b.0) (int_cmp a.1 b.1)

key_cmp-total : IsTotalOrder key_cmp
key_cmp-total = then_total (on_total (λ (k : Key). k.0) nat_cmp_total) (on_total (λ (k : Key). k.1) int_cmp_total)

not_less : (s t : ℕ) (y z : ℤ) → is_lt (ordering_then (nat_cmp t s) (int_cmp z y)) ≡ false → (s < t) ⊎ ((s ≡ t) × (y ≤ℤ z))
not_less s t y z e = grind (arith, ints)

-- sorted slots ascend
pub sorted_ascend : (slots : List Slot) → IsSortedByKey slot_key key_cmp slots → AreAscending slots
sorted_ascend slots sorted k m d l h =
    let a = get_or slots k d in
    let b = get_or slots m d in
    not_less a.strip b.strip a.spot.y b.spot.y
    (sorted_far (λ (x y : Slot). is_lt (key_cmp (slot_key x) (slot_key y))) (ranks_by key_cmp-total slot_key) slots sorted k m d l h)

-- ---- a slot a row
-- the rows before the i-th have slots
pub record HaveSlots (ps : List Given) (slots : List Slot) (i : ℕ) : Type 0 where
  pub only : All (IsSlot ps) slots
  pub all : (j : ℕ) → j < i → (s : Slot) × Contains slots s × (s.row ≡ j)

-- one row more
pub slot_pushed : (ps : List Given) (slots : List Slot) (i : ℕ) (s : Slot) → IsSlot ps s → s.row ≡ i → HaveSlots ps slots i → HaveSlots ps (slots ++ s ∷ []) (i + 1)
slot_pushed ps slots i s is e h = record {
  only = All-push (IsSlot ps) slots s h.only is;
  all = λ j l. by j l (cases_lt j i);
}
  where
    by : (j : ℕ) → j < i + 1 → (j < i) ⊎ (i ≤ j) → (t : Slot) × Contains (slots ++ s ∷ []) t × (t.row ≡ j)
    by j l (inl k) = let w = h.all j k in (w.0, Contains-append_left slots (s ∷ []) w.0 w.1, w.2)
    by j l (inr k) = (s, Contains-append_right slots (s ∷ []) s (0, omega arith, refl), e ∙ omega arith)

-- slots that were sorted
pub sorted_order : (ps : List Given) (g : Grid) (before after : List Slot) → HasSlots ps before → All (IsInStrip g) before → IsPermutation before after → IsSortedByKey slot_key key_cmp after
    → IsOrder ps g after
sorted_order ps g before after h strips moved sorted = record {
  has = record {
    only = All-permutation (IsSlot ps) before after moved h.only;
    all = λ i l. let w = h.all i l in (w.0, Contains-permutation before after w.0 moved w.1, w.2);
  };
  strips = All-permutation (IsInStrip g) before after moved strips;
  ascend = sorted_ascend after sorted;
}

-- ---- halving
clash : (b : Bool) → b ≡ true → b ≡ false → ⊥
clash b t f = cc

before_too : (s t n : ℕ) (y z h : ℤ) → (s < t) ⊎ ((s ≡ t) × (y ≤ℤ z)) → nat_lt t n || (t == n && int_lt z h) ≡ true → nat_lt s n || (s == n && int_lt y h) ≡ true
before_too s t n y z h (inl l) e = grind (arith, ints)
before_too s t n y z h (inr w) e = grind (arith, ints)

-- what is before a slot stands before what that stands before
stands_too : (a b : Slot) (n : ℕ) (h : ℤ) → IsInOrder a b → stands_before b n h ≡ true → stands_before a n h ≡ true
stands_too a b n h o e = before_too a.strip b.strip n a.spot.y b.spot.y h o e

-- those that stand before a height in a strip are all in front
pub bound_parts : (slots : List Slot) (n : ℕ) (h : ℤ) → AreAscending slots → IsPartitionedBy (λ (s : Slot). stands_before s n h) slots
bound_parts slots n h up i j d l w e = stands_too (get_or slots i d) (get_or slots j d) n h (up i j d l w) e

-- where they end
pub starts_at : (slots : List Slot) (n : ℕ) (h : ℤ) (start : ℕ) → start ≤ length slots
    → IsPartitionPoint (λ (s : Slot). stands_before s n h ≡ true) (λ (s : Slot). stands_before s n h ≡ false) slots start → StartsAt slots n h start
starts_at slots n h start within point = record {
  within = within;
  before = λ k d l. point.0 k d (omega arith) l;
}

below : (s n : ℕ) (y h : ℤ) → s ≡ n → nat_lt s n || (s == n && int_lt y h) ≡ true → y <ℤ h
below s n y h e b = grind (arith, ints)

not_below : (s n : ℕ) (y h : ℤ) → s ≡ n → nat_lt s n || (s == n && int_lt y h) ≡ false → h ≤ℤ y
not_below s n y h e b = grind (arith, ints)

-- of a strip, what stands before a height is below it
pub stands_below : (s : Slot) (n : ℕ) (h : ℤ) → s.strip ≡ n → stands_before s n h ≡ true → s.spot.y <ℤ h
stands_below s n h e b = below s.strip n s.spot.y h e b

-- and after a slot that does not, none does
pub stands_above : (a b : Slot) (n : ℕ) (h : ℤ) → IsInOrder a b → stands_before a n h ≡ false → b.strip ≡ n → h ≤ℤ b.spot.y
stands_above a b n h o e w = by (stands_before b n h) refl
  where
    by : (t : Bool) → stands_before b n h ≡ t → h ≤ℤ b.spot.y
    by true f = absurd (clash (stands_before a n h) (stands_too a b n h o f) e)
    by false f = not_below b.strip n b.spot.y h w f

-- ---- points
-- the place of each point is in millionths of a millimetre
pub all_in_parts : (ps : List Given) (slots : List Slot) → HasSlots ps slots → All (λ (g : Given). g.at.d ≡ parts) ps
all_in_parts ps slots has i d l =
    let w = has.all i l in
    let s = All-contains (IsSlot ps) slots w.0 has.only w.1 in
    let at : slice_get ps i ≡ Some s.point = subst (λ (n : ℕ). slice_get ps n ≡ Some s.point) w.2 s.at in
    ap (λ (g : Given). g.at.d) (same_Some (get_or ps i d) s.point (sym (slice_get-get_or ps i d l) ∙ at)) ∙ ap (λ (p : RationalPoint). p.d) s.same

-- ---- halves
-- those that were put so far
pub record ArePutSoFar (slots taken low high : List Slot) : Type 0 where
  pub lows : All (λ (s : Slot). Contains slots s) low
  pub highs : All (λ (s : Slot). Contains slots s) high
  pub all : (s : Slot) → Contains taken s → Contains low s ⊎ Contains high s

last_or : (xs : List Slot) (x s : Slot) → Contains (xs ++ x ∷ []) s → Contains xs s ⊎ (x ≡ s)
last_or xs x s h = by (Contains-append_cases xs (x ∷ []) s h)
  where
    by : Contains xs s ⊎ Contains (x ∷ []) s → Contains xs s ⊎ (x ≡ s)
    by (inl a) = inl a
    by (inr a) = inr (All-contains (λ (y : Slot). x ≡ y) (x ∷ []) s (All-cons (λ (y : Slot). x ≡ y) x [] refl (All-nil (λ (y : Slot). x ≡ y))) a)

-- none was put
pub put_none : (slots low high : List Slot) → low ≡ [] → high ≡ [] → ArePutSoFar slots [] low high
put_none slots low high e f = record {
  lows = rw e (All-nil (λ (s : Slot). Contains slots s));
  highs = rw f (All-nil (λ (s : Slot). Contains slots s));
  all = λ s h. absurd (nothing s h);
}
  where
    nothing : (s : Slot) → Contains [] s → ⊥
    nothing s h = omega (arith, h.1)

-- one more
pub put_more : (slots taken low high ls hs : List Slot) (s : Slot) (b : Bool) → Contains slots s → ls ≡ cond b (low ++ s ∷ []) low → hs ≡ cond b high (high ++ s ∷ [])
    → ArePutSoFar slots taken low high → ArePutSoFar slots (taken ++ s ∷ []) ls hs
put_more slots taken low high ls hs s true among e f h = rw (e, f) (record {
  lows = All-push (λ (t : Slot). Contains slots t) low s h.lows among;
  highs = h.highs;
  all = λ t w. by t (last_or taken s t w);
})
  where
    by : (t : Slot) → Contains taken t ⊎ (s ≡ t) → Contains (low ++ s ∷ []) t ⊎ Contains high t
    by t (inr e) = inl (subst (λ (u : Slot). Contains (low ++ s ∷ []) u) e (Contains-append_right low (s ∷ []) s (0, omega arith, refl)))
    by t (inl w) = still (h.all t w)
      where
        still : Contains low t ⊎ Contains high t → Contains (low ++ s ∷ []) t ⊎ Contains high t
        still (inl a) = inl (Contains-append_left low (s ∷ []) t a)
        still (inr a) = inr a
put_more slots taken low high ls hs s false among e f h = rw (e, f) (record {
  lows = h.lows;
  highs = All-push (λ (t : Slot). Contains slots t) high s h.highs among;
  all = λ t w. by t (last_or taken s t w);
})
  where
    by : (t : Slot) → Contains taken t ⊎ (s ≡ t) → Contains low t ⊎ Contains (high ++ s ∷ []) t
    by t (inr e) = inr (subst (λ (u : Slot). Contains (high ++ s ∷ []) u) e (Contains-append_right high (s ∷ []) s (0, omega arith, refl)))
    by t (inl w) = still (h.all t w)
      where
        still : Contains low t ⊎ Contains high t → Contains low t ⊎ Contains (high ++ s ∷ []) t
        still (inl a) = inl a
        still (inr a) = inr (Contains-append_left high (s ∷ []) t a)

-- all were put
pub put_all : (slots taken low high : List Slot) → taken ≡ slots → ArePutSoFar slots taken low high → ArePut slots low high
put_all slots taken low high e h = record { lows = h.lows; highs = h.highs; all = λ s w. h.all s (subst (λ (xs : List Slot). Contains xs s) (sym e) w) }
