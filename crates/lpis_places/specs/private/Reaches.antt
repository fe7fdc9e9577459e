-- Boxes in millionths of a millimetre.
use Rattle.std.specs.Prelude.{ℤ, ◌*ℤ◌, ◌≤ℤ◌, ◌<ℤ◌}
use Rattle.lpis_points.specs.declared.boxes.Box4.{Box4}
use Rattle.lpis_tables.specs.declared.piece.Piece.{Piece}
use Rattle.lpis_checker.specs.SoundMap.{IsInPiece}
use Rattle.lpis_places.specs.declared.reach.Reach.{Reach}
use Rattle.lpis_places.specs.declared.spot.Spot.{Spot}
use Rattle.lpis_places.specs.Numbers.{parts}
use Rattle.lpis_places.specs.Points.{rational_at}

-- a coordinate in parts
abbrev pub up : ℤ → ℤ
up z = z *ℤ parts

abbrev pub reach_of : Box4 → Reach
reach_of b = record { left = up b.x0; low = up b.y0; right = up b.x1; high = up b.y1 }

-- the point is between the left and the right side
abbrev pub IsInWidth : Reach → Spot → Type 0
IsInWidth b s = (b.left ≤ℤ s.x) × (s.x <ℤ b.right)

-- the point is between the low and the high side
abbrev pub IsInHeight : Reach → Spot → Type 0
IsInHeight b s = (b.low ≤ℤ s.y) × (s.y <ℤ b.high)

-- the piece contains points of the box alone
abbrev pub IsBoxed : Piece → Reach → Type 0
IsBoxed k b = (s : Spot) → IsInPiece (rational_at s) k → IsInWidth b s × IsInHeight b s
