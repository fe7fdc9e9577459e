-- The plane, cut by lines into tiles, one for each region.
use Rattle.std.specs.Prelude.{pos, neg_ℤ, ◌+ℤ◌, ◌-ℤ◌, Bool, not, ◌||◌, List, [], ◌∷◌, ◌++◌}
use Rattle.std.specs.Int.{int_max, int_min}
use Rattle.lpis_points.specs.declared.boxes.Box4.{Box4}
use Rattle.lpis_points.specs.Range.{limit}
use Rattle.lpis_points.specs.Triangles.{ends_before}
use Rattle.lpis_release.specs.declared.parcel.Parcel.{Parcel}
use Rattle.lpis_country.specs.Polygons.{box_of_members}
use Rattle.lpis_country.specs.Tree.{Tree, folder, by_x, by_y}

-- the tiles of a rectangle that is cut in this way, in the order of their regions
abbrev pub rectangles : Tree → Box4 → List Box4
rectangles (folder name) b = b ∷ []
rectangles (by_x c s t) b =
    rectangles s (record { x0 = b.x0; y0 = b.y0; x1 = int_min b.x1 c; y1 = b.y1 })
    ++ rectangles t (record { x0 = int_max b.x0 c; y0 = b.y0; x1 = b.x1; y1 = b.y1 })
rectangles (by_y c s t) b =
    rectangles s (record { x0 = b.x0; y0 = b.y0; x1 = b.x1; y1 = int_min b.y1 c })
    ++ rectangles t (record { x0 = b.x0; y0 = int_max b.y0 c; x1 = b.x1; y1 = b.y1 })

-- the rectangle that is cut: one beyond the range of coordinates on each side
abbrev pub frame : Box4
frame = record {
  x0 = neg_ℤ limit -ℤ pos 1;
  y0 = neg_ℤ limit -ℤ pos 1;
  x1 = limit +ℤ pos 1;
  y1 = limit +ℤ pos 1;
}

-- neither box ends where the other begins, or before
abbrev pub meets : Box4 → Box4 → Bool
meets b c = not (ends_before b c || ends_before c b)

-- the parcel's box meets the tile
abbrev pub reaches : Parcel → Box4 → Bool
reaches k tile = meets tile (box_of_members k.polygon)
