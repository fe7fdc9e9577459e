-- The report of a release.
use Rattle.std.specs.Prelude.{◌++◌, ℕ, ℤ, List, codes, length}
use Rattle.std.specs.Fmt.{decimal}
use Rattle.std.specs.List.{flat_map}
use Rattle.lpis_points.specs.Sums.{int_sum_by}
use Rattle.lpis_rings.specs.Area.{area2}
use Rattle.lpis_release.specs.declared.parcel.Parcel.{Parcel}
use Rattle.lpis_release.specs.Weighted.{weighted2}
use Rattle.lpis_release.specs.Release.{Contents}
use Rattle.lpis_run.specs.Area.{area_text, eligible_text}

-- an area and how much of it is eligible, up to the end of the line
unfoldable pub areas_text : ℤ → ℤ → List ℕ
areas_text area weighted = codes " area " ++ area_text area ++ codes " eligible "
    ++ eligible_text weighted ++ codes "\n"

-- the line that counts parcels and pieces
abbrev pub counts_line : Contents → List ℕ
counts_line r = codes "parcels " ++ decimal (length r.parcels) ++ codes " pieces "
    ++ decimal (length r.pieces) ++ codes "\n"

-- the line of a parcel: its identifier, its area, its maximum eligible area
abbrev pub parcel_line : Contents → Parcel → List ℕ
parcel_line r k = codes "parcel " ++ k.id ++ areas_text (area2 k.polygon) (weighted2 r k.id)

-- the line of all parcels together
abbrev pub total_line : Contents → List ℕ
total_line r = codes "total" ++ areas_text (int_sum_by (λ k. area2 k.polygon) r.parcels)
    (int_sum_by (λ k. weighted2 r k.id) r.parcels)

-- the report: the counts, a line a parcel in the order of the table, the sums, and the yes
abbrev pub report_text : Contents → List ℕ
report_text r = counts_line r ++ flat_map (parcel_line r) r.parcels ++ total_line r ++ codes "yes\n"
