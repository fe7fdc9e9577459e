-- Events of boxes in strips, and what a sweep over them finds.
use Rattle.std.specs.Prelude.{◌≡◌, ℕ, ◌+◌, ◌-◌, ◌*◌, ◌<◌, ◌≤◌, ◌/◌, ◌||◌, nat_eq, true}
use Rattle.std.specs.Prelude.{List, All, Contains, length}
use Rattle.std.specs.Prelude.{slice_get, Option, None, Some}
use Rattle.lpis_points.specs.declared.triangle.Triangle.{Triangle}
use Rattle.lpis_pairs.specs.declared.events.Event.{Event}
use Rattle.lpis_pairs.specs.declared.extents.Extent.{Extent}
use Rattle.lpis_pairs.specs.NearPairs.{IsNear, IsBelow}
use Rattle.lpis_pairs.specs.private.Strips.{extent_of}

-- the pairs ascend
abbrev pub IsRising : List (ℕ × ℕ) → Type 0
IsRising ps = (k m : ℕ) (p q : ℕ × ℕ) → k < m → slice_get ps k ≡ Some p → slice_get ps m ≡ Some q
    → IsBelow p.0 p.1 q.0 q.1

-- the box of the triangle i in a strip, where strips have a height. The strip stands in front of
-- the 32 bits that say where the box begins
abbrev pub event : Extent → ℕ → ℕ → ℕ → Event
event x height i strip = record {
  key = strip * 4294967296 + x.left;
  index = i;
  starts = nat_eq strip (x.bottom / height);
}

-- events are of so many boxes
abbrev pub AreEvents : ℕ → List Event → Type 0
AreEvents count es = All (λ (e : Event). e.index < count) es

-- each box has its event in each strip that it meets, and there are no others
pub record HasEvents (xs : List Extent) (height : ℕ) (es : List Event) : Type 0 where
  pub only : AreEvents (length xs) es
  pub all : (i strip : ℕ) (x : Extent) → slice_get xs i ≡ Some x → x.bottom / height ≤ strip
      → strip ≤ x.top / height → Contains es (event x height i strip)

-- by strip, and in a strip by where boxes begin
abbrev pub AreInOrder : List Event → Type 0
AreInOrder es = (k m : ℕ) (e f : Event) → k < m → slice_get es k ≡ Some e → slice_get es m ≡ Some f
    → e.key ≤ f.key

-- how wide the box of a triangle is, if there is one
abbrev pub width_of : Option Triangle → ℕ
width_of None = 0
width_of (Some t) = (extent_of t).right - (extent_of t).left

-- where two triangles are a near pair, in whichever order, it is listed
abbrev pub IsTaken : List Triangle → List (ℕ × ℕ) → ℕ → ℕ → Type 0
IsTaken ts ps i j = (IsNear ts i j → Contains ps (i, j)) × (IsNear ts j i → Contains ps (j, i))

-- of an event and the one at m, in whose strip one of them starts, and the second of which begins
-- less than the width of the first behind it, the near pair is listed
abbrev pub Joins : List Triangle → Event → List Event → List (ℕ × ℕ) → ℕ → Type 0
Joins ts e es ps m =
    (f : Event) → slice_get es m ≡ Some f
    → f.key - e.key < width_of (slice_get ts e.index) → (e.starts || f.starts) ≡ true
    → IsTaken ts ps e.index f.index

-- each event is joined with those behind it
abbrev pub JoinsAll : List Triangle → List Event → List (ℕ × ℕ) → Type 0
JoinsAll ts es ps = (k m : ℕ) (e : Event) → k < m → slice_get es k ≡ Some e → Joins ts e es ps m

-- of an event and the one at m, if it is so far behind it or farther, and less than the width of
-- the first, the near pair is listed
abbrev pub JoinsFar : List Triangle → Event → List Event → ℕ → List (ℕ × ℕ) → ℕ → Type 0
JoinsFar ts e fs gap ps m =
    (f : Event) → slice_get fs m ≡ Some f → e.key + gap ≤ f.key
    → f.key - e.key < width_of (slice_get ts e.index) → (e.starts || f.starts) ≡ true
    → IsTaken ts ps e.index f.index

-- each event is joined with those of another list
abbrev pub JoinsAcross : List Triangle → List Event → List Event → ℕ → List (ℕ × ℕ) → Type 0
JoinsAcross ts es fs gap ps =
    (k : ℕ) (e : Event) → slice_get es k ≡ Some e → (m : ℕ) → JoinsFar ts e fs gap ps m

-- the events of two lists are joined: those at one key but once
abbrev pub JoinsBoth : List Triangle → List Event → List Event → List (ℕ × ℕ) → Type 0
JoinsBoth ts es fs ps = JoinsAcross ts es fs 0 ps × JoinsAcross ts fs es 1 ps

-- each near pair is listed
abbrev pub FindsNear : List Triangle → List (ℕ × ℕ) → Type 0
FindsNear ts ps = (i j : ℕ) → IsNear ts i j → Contains ps (i, j)

-- the events from a place on have this key, or a greater one
abbrev pub AreBehind : ℕ → List Event → ℕ → Type 0
AreBehind key es from = (m : ℕ) (f : Event) → from ≤ m → slice_get es m ≡ Some f → key ≤ f.key

-- and those before it have not
pub record StartsAt (es : List Event) (key from : ℕ) : Type 0 where
  pub behind : AreBehind key es from
  pub before : (m : ℕ) (f : Event) → slice_get es m ≡ Some f → key ≤ f.key → from ≤ m

-- each listed pair is near
abbrev pub AreNear : List Triangle → List (ℕ × ℕ) → Type 0
AreNear ts ps = All (λ (p : ℕ × ℕ). IsNear ts p.0 p.1) ps

-- the listed pairs became more, and near ones alone came to them
pub record GrowNear (ts : List Triangle) (old new : List (ℕ × ℕ)) : Type 0 where
  pub kept : (pair : ℕ × ℕ) → Contains old pair → Contains new pair
  pub near : AreNear ts old → AreNear ts new

-- what was of some pairs is of more of them, to which near ones alone came
abbrev pub Takes : (List (ℕ × ℕ) → Type 0) → (List (ℕ × ℕ) → Type 0) → List Triangle
    → (List (ℕ × ℕ) → Type 0) → Type 0
Takes Old New ts Found = (ps : List (ℕ × ℕ)) → Old ps
    → (qs : List (ℕ × ℕ)) × New qs × GrowNear ts ps qs × Found qs

-- the events of triangles stand in order
pub record AreSwept (ts : List Triangle) (es : List Event) : Type 0 where
  pub events : AreEvents (length ts) es
  pub order : AreInOrder es
