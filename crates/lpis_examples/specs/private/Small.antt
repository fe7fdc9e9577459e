-- A small number is in the range of a coordinate.
use Rattle.std.specs.Prelude.{ℕ, min, pos}
use lib.Signed.{le_z_yes}
use lib.Dec.{le→leb, leb→le}
use native.Mathlib.Nat.{min-le_right, le_trans}
use Rattle.lpis_points.specs.Range.{IsInRange}

pub small-in-range : (n : ℕ) → IsInRange (pos (min n 100))
small-in-range n = (
  le_z_yes tt,
  le_z_yes (le→leb (min n 100) 20000000000
      (le_trans (min-le_right n 100) (leb→le 100 20000000000 tt))),
)
