-- The faults of the next region of a country, in the order in which the first is reported.
use Rattle.std.specs.Prelude.{◌≡◌, ◌⊎◌, ◌+◌, ◌&&◌, Bool, false, not, cond, ℕ, List, [], ◌∷◌, ◌++◌}
use Rattle.std.specs.Prelude.{length}
use Rattle.std.specs.Prelude.{slice_get, take, drop, map, filter, flat_map, Option, None, Some}
use Rattle.std.specs.Prelude.{Result, Ok, Err}
use Rattle.std.specs.List.{list_any}
use Rattle.lpis_points.specs.declared.boxes.Box4.{Box4}
use Rattle.lpis_tables.specs.declared.class.Class.{Class}
use Rattle.lpis_tables.specs.Ids.{has_id}
use Rattle.lpis_release.specs.declared.parcel.Parcel.{Parcel}
use Rattle.lpis_release.specs.Release.{Contents, parcel_ids, parcel_named, pieces_named}
use Rattle.lpis_country.specs.Country.{country_of}
use Rattle.lpis_country.specs.Tiling.{reaches}
use Rattle.lpis_release.specs.Equality.{same_class, same_pieces, same_polygon}
use Rattle.lpis_country_seam.specs.declared.fault.SeamCode.TheVariants.{Elsewhere, Reused}
use Rattle.lpis_country_seam.specs.declared.fault.SeamCode.TheVariants.{Differs, Lacks}
use Rattle.lpis_country_seam.specs.declared.fault.SeamFault.{SeamFault}
use Rattle.lpis_country_seam.specs.declared.fault.SeamFault.TheVariants.{Memory, Classes, At}

-- a fault where the test is true
abbrev pub seam_fault_if : Bool → SeamFault → List SeamFault
seam_fault_if b fault = cond b (fault ∷ []) []

-- ---- classes
-- each row, from this one on, at which two tables differ; where one is the beginning of the other,
-- the row after it
abbrev pub seam_class_faults : ℕ → List Class → List Class → List SeamFault
seam_class_faults n [] [] = []
seam_class_faults n [] (b ∷ bs) = Classes n ∷ []
seam_class_faults n (a ∷ more) [] = Classes n ∷ []
seam_class_faults n (a ∷ more) (b ∷ bs) = seam_fault_if (not (same_class a b)) (Classes n)
    ++ seam_class_faults (n + 1) more bs

-- ---- tiles
-- the parcel's box meets this tile, if there is one
abbrev pub reaches_at : Parcel → Option Box4 → Bool
reaches_at k None = false
reaches_at k (Some tile) = reaches k tile

-- it meets the tile of number n
abbrev pub reaches_own : List Box4 → ℕ → Parcel → Bool
reaches_own tiles n k = reaches_at k (slice_get tiles n)

-- it meets that tile or one after it
abbrev pub reaches_later : List Box4 → ℕ → Parcel → Bool
reaches_later tiles n k = list_any (reaches k) (drop n tiles)

-- the numbers of those of these tiles that it meets; the first tile has this number
abbrev pub reached : ℕ → List Box4 → Parcel → List ℕ
reached i [] k = []
reached i (t ∷ ts) k = cond (reaches k t) (i ∷ reached (i + 1) ts k) (reached (i + 1) ts k)

-- ---- parcels
-- the two rows are the same: equal polygons, and in the region equal pieces in their order
abbrev pub is_double : Contents → Parcel → Contents → Parcel → Bool
is_double country k r k' = same_polygon k.polygon k'.polygon
    && same_pieces (pieces_named country k.id) (pieces_named r k'.id)

-- a row of the region of tile n, by the parcel of its identifier in the country so far. Where there
-- is one it has to meet a tile still, and then to be the same; where there is none, each tile
-- before n that the row's box meets lacks it
abbrev pub earlier_faults : List Box4 → ℕ → Contents → Contents → Parcel → Option Parcel
    → List SeamFault
earlier_faults tiles n country r k (Some before) = cond (reaches_later tiles n before)
    (seam_fault_if (not (is_double country before r k)) (At Differs k.id n)) (At Reused k.id n ∷ [])
earlier_faults tiles n country r k None = map (At Lacks k.id) (reached 0 (take n tiles) k)

-- the faults of a row: first that its box does not meet the region's tile
abbrev pub seam_row_faults : List Box4 → ℕ → Contents → Contents → Parcel → List SeamFault
seam_row_faults tiles n country r k =
    seam_fault_if (not (reaches_own tiles n k)) (At Elsewhere k.id n)
    ++ earlier_faults tiles n country r k (parcel_named country k.id)

-- the parcel of the country so far has to stand in the region of tile n, and does not
abbrev pub is_lacking : List Box4 → ℕ → Contents → Parcel → Bool
is_lacking tiles n r k = reaches_own tiles n k && not (has_id (parcel_ids r.parcels) k.id)

-- ---- regions
-- the faults of a region after those that were read: its classes, its rows in the order of their
-- table, and then the parcels that it lacks, in the order in which they first stood
abbrev pub seam_faults : List Box4 → List Class → List Contents → Contents → List SeamFault
seam_faults tiles classes done r =
    let n = length done in
    let country = country_of classes done in
    seam_class_faults 1 r.classes classes
    ++ (flat_map (seam_row_faults tiles n country r) r.parcels
    ++ map (λ (k : Parcel). At Lacks k.id n) (filter (is_lacking tiles n r) country.parcels))

-- the fault is the first of these
abbrev pub IsFirstSeamFault : List SeamFault → SeamFault → Type 0
IsFirstSeamFault faults fault = (more : List SeamFault) × (faults ≡ fault ∷ more)

-- an answer reports the first of these faults, Ok exactly where there is none, or out of memory
abbrev pub ReportsSeam : {A : Type 0} → List SeamFault → Result A SeamFault → Type 0
ReportsSeam faults (Ok x) = faults ≡ []
ReportsSeam faults (Err fault) = (fault ≡ Memory) ⊎ IsFirstSeamFault faults fault
