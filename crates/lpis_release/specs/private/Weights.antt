-- The weighted areas of pieces by their indices.
use Rattle.std.specs.Prelude.{ℕ, List, ℤ}
use Rattle.lpis_points.specs.Sums.{int_sum_by}
use Rattle.lpis_release.specs.Release.{Contents}
use Rattle.lpis_release.specs.Weighted.{piece_weight}
use Rattle.lpis_release.specs.private.Groups.{at_indices}

-- the weighted area of the pieces at indices
abbrev pub weighted_at : Contents → List ℕ → ℤ
weighted_at c indices = int_sum_by (piece_weight c.classes) (at_indices c.pieces indices)
