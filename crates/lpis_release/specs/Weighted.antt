-- The weighted area of a parcel: the sum over its pieces, each by the percentage of its class.
use Rattle.std.specs.Prelude.{ℤ, pos, ◌*ℤ◌, ◌*◌, ℕ, List, Option, option_map, unwrap_or}
use Rattle.std.specs.List.{find}
use Rattle.lpis_points.specs.Sums.{int_sum_by}
use Rattle.lpis_tables.specs.declared.class.Class.{Class}
use Rattle.lpis_tables.specs.declared.piece.Piece.{Piece}
use Rattle.lpis_tables.specs.Ids.{same_id}
use Rattle.lpis_tables.specs.Percentages.{most_percent}
use Rattle.lpis_rings.specs.Area.{area2}
use Rattle.lpis_rings.specs.AreaBounds.{most_area}
use Rattle.lpis_release.specs.Release.{Contents, pieces_named}

-- the class of a code
abbrev pub class_named : List Class → List ℕ → Option Class
class_named classes code = find (λ (k : Class). same_id code k.code) classes

-- the percentage of a piece's class; without one nothing counts
abbrev pub piece_percent : List Class → Piece → ℕ
piece_percent classes piece =
    unwrap_or (option_map (λ (k : Class). k.percent) (class_named classes piece.class)) 0

-- the doubled areas of pieces, added
abbrev pub areas2 : List Piece → ℤ
areas2 ps = int_sum_by (λ (p : Piece). area2 p.polygon) ps

-- the doubled area of a piece times its percentage
abbrev pub piece_weight : List Class → Piece → ℤ
piece_weight classes piece = pos (piece_percent classes piece) *ℤ area2 piece.polygon

-- the doubled weighted area of a parcel: that of its pieces, each times its percentage
abbrev pub weighted2 : Contents → List ℕ → ℤ
weighted2 c id = int_sum_by (piece_weight c.classes) (pieces_named c id)

-- the greatest absolute value of the doubled weighted area of a piece
abbrev pub most_weighted : ℕ
most_weighted = most_percent * most_area
