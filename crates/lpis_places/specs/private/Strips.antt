-- Strips of the map, from left to right.
use Rattle.std.specs.Prelude.{ℕ, ℤ}
use Rattle.lpis_places.specs.declared.grid.Grid.{Grid}
use Rattle.lpis_places.specs.declared.index.Slot.{Slot}
use Rattle.lpis_places.specs.private.Starts.{IsStripIn}

-- the strip of an x: as many strips as begin at it or left of it are before it
abbrev pub IsStripOf : Grid → ℤ → ℕ → Type 0
IsStripOf g x strip = IsStripIn g.starts.items x strip

abbrev pub IsInStrip : Grid → Slot → Type 0
IsInStrip g s = IsStripOf g s.spot.x s.strip
