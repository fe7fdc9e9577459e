-- Boxes of points, and edges that all points of a box cross alike.
use Rattle.std.specs.Prelude.{◌≡◌, ◌⊎◌, ◌≤ℤ◌, ◌<ℤ◌, Bool}
use Rattle.lpis_places.specs.declared.edges.Edge.{Edge}
use Rattle.lpis_places.specs.declared.spans.Span.{Span}
use Rattle.lpis_places.specs.declared.spot.Spot.{Spot}
use Rattle.lpis_places.specs.Points.{rational_at}
use Rattle.lpis_places.specs.private.Insides.{is_crossed}
use Rattle.lpis_places.specs.private.Reaches.{up}

-- the point is in the box or on a side
pub record IsInSpan (b : Span) (s : Spot) : Type 0 where
  pub left : b.low.x ≤ℤ s.x
  pub low : b.low.y ≤ℤ s.y
  pub right : s.x ≤ℤ b.high.x
  pub high : s.y ≤ℤ b.high.y

-- all points of the box cross the edge, or none does
abbrev pub CrossAlike : Span → Edge → Bool → Type 0
CrossAlike b e are = (s : Spot) → IsInSpan b s → is_crossed (rational_at s) e.from e.to ≡ are

-- one end is above all points of the box, the other above none
abbrev pub IsThrough : Span → Edge → Type 0
IsThrough b e = ((b.high.y <ℤ up e.from.y) × (up e.to.y ≤ℤ b.low.y))
    ⊎ ((up e.from.y ≤ℤ b.low.y) × (b.high.y <ℤ up e.to.y))
