-- The lines that are printed of a country.
use Rattle.std.specs.Prelude.{◌++◌, [], ℕ, List, codes, get_or, length}
use Rattle.std.specs.Fmt.{decimal}
use Rattle.std.specs.List.{flat_map}
use Rattle.lpis_points.specs.Sums.{int_sum_by}
use Rattle.lpis_rings.specs.Area.{area2}
use Rattle.lpis_release.specs.Release.{Contents}
use Rattle.lpis_release.specs.Weighted.{weighted2}
use Rattle.lpis_run.specs.declared.detail.Detail.{Detail}
use Rattle.lpis_run.specs.declared.detail.Detail.TheVariants.{Regions, Parcels}
use Rattle.lpis_run.specs.Refusals.{region_end}
use Rattle.lpis_run.specs.Report.{areas_text, parcel_line}
use Rattle.lpis_country.specs.Country.{new_parcels}
use Rattle.lpis_country_seam.specs.declared.fault.SeamFault.{SeamFault}
use Rattle.lpis_country_seam.specs.declared.fault.SeamFault.TheVariants as seam
use Rattle.lpis_country_seam.specs.Codes.{classes_code_text, seam_code_text}

-- ---- what passed
-- how many parcels and pieces there are, the area of all parcels, and how much of it is eligible
unfoldable pub sums_text : Contents → List ℕ
sums_text r = codes " parcels " ++ decimal (length r.parcels) ++ codes " pieces "
    ++ decimal (length r.pieces) ++ areas_text (int_sum_by (λ k. area2 k.polygon) r.parcels)
    (int_sum_by (λ k. weighted2 r k.id) r.parcels)

-- the line of a region: its folder's name, and what its own tables have
abbrev pub region_sums_line : List ℕ → Contents → List ℕ
region_sums_line name r = codes "region " ++ name ++ sums_text r

-- the lines of the parcels that first stand in a region, if they are asked for
abbrev pub detail_lines : Detail → Contents → Contents → List ℕ
detail_lines Regions u r = []
detail_lines Parcels u r = flat_map (parcel_line r) (new_parcels u r)

-- what is printed of a region that follows a country so far
abbrev pub region_report : Detail → Contents → List ℕ → Contents → List ℕ
region_report detail u name r = region_sums_line name r ++ detail_lines detail u r

-- the line of the country of so many regions, and the yes
abbrev pub country_lines : ℕ → Contents → List ℕ
country_lines n u = codes "country regions " ++ decimal n ++ sums_text u ++ codes "yes\n"

-- ---- refusals
-- the line at which `country.txt` is none
abbrev pub plan_refusal_text : ℕ → List ℕ
plan_refusal_text line = codes "refused 90 country line " ++ decimal line ++ codes "\n"

-- of a region of this name that does not fit those before it: a row of its classes, or a parcel
-- with the region that it is about, by its number among these names
abbrev pub seam_refusal_text : List (List ℕ) → List ℕ → SeamFault → List ℕ
seam_refusal_text names name seam.Memory = []
seam_refusal_text names name (seam.Classes row) =
    codes "refused " ++ classes_code_text ++ codes " classes row " ++ decimal row ++ region_end name
seam_refusal_text names name (seam.At code id region) =
    codes "refused " ++ seam_code_text code ++ codes " parcel " ++ id
    ++ region_end (get_or names region [])
