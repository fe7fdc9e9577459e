-- Boxes in stretches of one height: which they hold, and in which they begin.
use Rattle.std.specs.Prelude.{◌≡◌, ℕ, ◌+◌, ◌-◌, ◌*◌, ◌<◌, ◌/◌, ◌%◌, ◌&&◌, ◌⊎◌, nat_eq, nat_lt}
use Rattle.std.specs.Prelude.{true, Bool, IsTrue, List, Contains, get_or, length, map}
use Rattle.lpis_points.specs.declared.triangle.Triangle.{Triangle}
use Rattle.lpis_pairs.specs.declared.events.Event.{Event}
use Rattle.lpis_pairs.specs.declared.extents.Extent.{Extent}
use Rattle.lpis_pairs.specs.private.Strips.{extent_of}
use Rattle.lpis_pairs.specs.private.Sweeping.{AreEvents, IsTaken}

-- what stands past the end of the boxes
abbrev pub no_box : Extent
no_box = record { left = 0; bottom = 0; right = 0; top = 0 }

-- the box of a number
abbrev pub box_at : List Extent → ℕ → Extent
box_at xs i = get_or xs i no_box

-- a box in stretches that are twice as high
abbrev pub half : Extent → Extent
half x = record { left = x.left; bottom = x.bottom / 2; right = x.right; top = x.top / 2 }

-- the box of the triangle i in a stretch. The stretch stands in front of the 32 bits that say where
-- the box begins
abbrev pub mark : Extent → ℕ → ℕ → Event
mark x i stretch = record { key = stretch * 4294967296 + x.left; index = i; starts = true }

-- a box holds the stretch above the one that it begins in, and not the pair that this one is of
abbrev pub holds_first : Extent → Bool
holds_first x = nat_lt (x.bottom + 1) x.top && nat_eq (x.bottom % 2) 0

-- a box holds the stretch below the one that it ends in, and not the pair that this one is of
abbrev pub holds_last : Extent → Bool
holds_last x = nat_lt (x.bottom + 1) x.top && nat_eq (x.top % 2) 1

-- one event was added, if it was wanted
pub record Pushes (wanted : Bool) (e : Event) (old new : List Event) : Type 0 where
  pub kept : (f : Event) → Contains old f → Contains new f
  pub pushed : IsTrue wanted → Contains new e
  pub only : (count : ℕ) → e.index < count → AreEvents count old → AreEvents count new

-- each box has its event in each such stretch
pub record HasHolders (xs : List Extent) (es : List Event) : Type 0 where
  pub only : AreEvents (length xs) es
  pub first : (i : ℕ) → i < length xs → holds_first (box_at xs i) ≡ true
      → Contains es (mark (box_at xs i) i ((box_at xs i).bottom + 1))
  pub last : (i : ℕ) → i < length xs → holds_last (box_at xs i) ≡ true
      → Contains es (mark (box_at xs i) i ((box_at xs i).top - 1))

-- each box has its event in the stretch that it begins in
pub record HasPlaces (xs : List Extent) (es : List Event) : Type 0 where
  pub only : AreEvents (length xs) es
  pub all : (i : ℕ) → i < length xs
      → Contains es (mark (box_at xs i) i (box_at xs i).bottom)

-- the second box begins above the beginning of the first, and below its top
abbrev pub Waits : Extent → Extent → Type 0
Waits x y = (x.bottom < y.bottom) × (y.bottom < x.top)

-- the second box begins in a stretch that the first holds, and does not hold the pair of
abbrev pub IsHere : Extent → Extent → Type 0
IsHere x y = ((holds_first x ≡ true) × (y.bottom ≡ x.bottom + 1))
    ⊎ ((holds_last x ≡ true) × (y.bottom ≡ x.top - 1))

-- the same boxes, in stretches of whatever height
pub record AreBoxes (xs boxes : List Extent) : Type 0 where
  pub count : length boxes ≡ length xs
  pub left : (i : ℕ) → (box_at boxes i).left ≡ (box_at xs i).left

-- the near pairs of boxes that begin at one height are listed
abbrev pub FindsAt : List Triangle → List (ℕ × ℕ) → Type 0
FindsAt ts ps =
    (h p : ℕ) → (box_at (map extent_of ts) h).bottom ≡ (box_at (map extent_of ts) p).bottom
    → IsTaken ts ps h p

-- those in stretches of one height are listed
abbrev pub FindsLevel : List Triangle → List Extent → List (ℕ × ℕ) → Type 0
FindsLevel ts boxes ps = (h p : ℕ) → IsHere (box_at boxes h) (box_at boxes p) → IsTaken ts ps h p

-- the near pairs of a box and one that begins in it, above its own beginning, are listed
abbrev pub FindsHeld : List Triangle → List Extent → List (ℕ × ℕ) → Type 0
FindsHeld ts xs ps = (h p : ℕ) → Waits (box_at xs h) (box_at xs p) → IsTaken ts ps h p
