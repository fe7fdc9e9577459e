-- Counts and areas of parcels.
use Rattle.std.specs.Prelude.{◌≡◌, ◌≤◌, ◌+◌, ◌*◌, ℕ, List, ◌++◌, Some, codes, length, map, nat_abs}
use Rattle.std.specs.Prelude.{slice_get, sum_by}
use Rattle.std.specs.Fmt.{decimal}
use Rattle.lpis_rings.specs.AreaBounds.{most_area}
use Rattle.lpis_tables.specs.Table.{most_rows}
use Rattle.lpis_release.specs.declared.parcel.Parcel.{Parcel}
use Rattle.lpis_release.specs.Release.{Contents, pieces_named}
use Rattle.lpis_release.specs.Weighted.{most_weighted}
use Rattle.lpis_run.specs.Area.{most_printed}
use Rattle.lpis_run.specs.Report.{areas_text}
use Rattle.lpis_run.specs.Areas.{AreasOf}
use Rattle.lpis_country.specs.Limits.{most_regions}
use Rattle.lpis_run_country.specs.declared.totals.Totals.{Totals}

-- how many pieces these parcels have
abbrev pub piece_count : Contents → List Parcel → ℕ
piece_count r ks = sum_by (λ (k : Parcel). length (pieces_named r k.id)) ks

-- the most parcels of a country
abbrev pub most_parcels : ℕ
most_parcels = most_rows * most_regions

-- they are no more than so many parcels can have
pub record IsBounded (t : Totals) : Type 0 where
  pub pieces : t.pieces ≤ most_rows * t.parcels
  pub area : nat_abs t.areas.area ≤ most_area * t.parcels
  pub weighted : nat_abs t.areas.weighted ≤ most_weighted * t.parcels

-- the counts and areas of these parcels
pub record AreTotalsOf (r : Contents) (ks : List Parcel) (t : Totals) : Type 0 where
  pub parcels : t.parcels ≡ length ks
  pub pieces : t.pieces ≡ piece_count r ks
  pub pieces_few : t.pieces ≤ most_rows * length ks
  pub areas : AreasOf r ks t.areas

-- two of them can be added
pub record AreAddable (s t : Totals) : Type 0 where
  pub first : IsBounded s
  pub second : IsBounded t
  pub few : s.parcels + t.parcels ≤ most_parcels

-- places among the parcels of a release
abbrev pub AreAt : Contents → List ℕ → List Parcel → Type 0
AreAt r places ks = map (slice_get r.parcels) places ≡ map Some ks

abbrev pub ArePlaces : Contents → List ℕ → Type 0
ArePlaces r places = (ks : List Parcel) × AreAt r places ks

-- what is printed of them
unfoldable pub totals_text : Totals → List ℕ
totals_text t = codes " parcels " ++ decimal t.parcels ++ codes " pieces " ++ decimal t.pieces
    ++ areas_text t.areas.area t.areas.weighted

-- so many regions
unfoldable pub count_text : ℕ → List ℕ
count_text n = codes "country regions " ++ decimal n

-- what is printed of the country of so many regions
abbrev pub last_lines : ℕ → Totals → List ℕ
last_lines n t = count_text n ++ totals_text t ++ codes "yes\n"

-- the areas can be printed
pub record IsPrintable (t : Totals) : Type 0 where
  pub area : nat_abs t.areas.area ≤ most_printed
  pub weighted : nat_abs t.areas.weighted ≤ most_printed
