-- Points in strips, and in each by y.
use Rattle.std.specs.Prelude.{◌≡◌, ◌<◌, ◌≤◌, ◌==◌, ◌⊎◌, ◌&&◌, ◌||◌, ℕ, ℤ, ◌≤ℤ◌, Bool, true, List}
use Rattle.std.specs.Prelude.{All, Contains, Some, get_or, int_lt, length, nat_lt, slice_get}
use Rattle.lpis_places.specs.declared.grid.Grid.{Grid}
use Rattle.lpis_places.specs.declared.index.Slot.{Slot}
use Rattle.lpis_places.specs.Points.{Given, rational_at}
use Rattle.lpis_places.specs.private.Strips.{IsInStrip}

-- the slot has the point of its row
pub record IsSlot (ps : List Given) (s : Slot) : Type 0 where
  pub point : Given
  pub at : slice_get ps s.row ≡ Some point
  pub same : point.at ≡ rational_at s.spot

-- each slot has the point of its row, and each row has a slot
pub record HasSlots (ps : List Given) (slots : List Slot) : Type 0 where
  pub only : All (IsSlot ps) slots
  pub all : (i : ℕ) → i < length ps → (s : Slot) × Contains slots s × (s.row ≡ i)

-- the first is of an earlier strip, or of the same and not above
abbrev pub IsInOrder : Slot → Slot → Type 0
IsInOrder a b = (a.strip < b.strip) ⊎ ((a.strip ≡ b.strip) × (a.spot.y ≤ℤ b.spot.y))

-- strips never fall, and y does not in a strip
abbrev pub AreAscending : List Slot → Type 0
AreAscending slots = (k m : ℕ) (d : Slot) → k ≤ m → m < length slots
    → IsInOrder (get_or slots k d) (get_or slots m d)

-- the points have slots, these are of their strips, and they ascend
pub record IsOrder (ps : List Given) (g : Grid) (slots : List Slot) : Type 0 where
  pub has : HasSlots ps slots
  pub strips : All (IsInStrip g) slots
  pub ascend : AreAscending slots

-- the slot is of an earlier strip, or of this one and below a height
abbrev pub stands_before : Slot → ℕ → ℤ → Bool
stands_before s n h = nat_lt s.strip n || (s.strip == n && int_lt s.spot.y h)

-- all slots before this one stand before a height in a strip
pub record StartsAt (slots : List Slot) (n : ℕ) (h : ℤ) (start : ℕ) : Type 0 where
  pub within : start ≤ length slots
  pub before : (k : ℕ) (d : Slot) → k < start → stands_before (get_or slots k d) n h ≡ true

-- each slot is in one of two halves, and the halves have no others
pub record ArePut (slots low high : List Slot) : Type 0 where
  pub lows : All (λ (s : Slot). Contains slots s) low
  pub highs : All (λ (s : Slot). Contains slots s) high
  pub all : (s : Slot) → Contains slots s → Contains low s ⊎ Contains high s
