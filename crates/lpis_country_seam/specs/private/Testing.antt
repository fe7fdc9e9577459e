-- The faults of a region by what is kept of those before it.
use Rattle.std.specs.Prelude.{◌++◌, ◌∷◌, ◌&&◌, Bool, not, cond, ℕ, List, [], map, filter}
use Rattle.std.specs.Prelude.{drop, take, Option, Some, None}
use Rattle.std.specs.List.{find, list_any}
use Rattle.lpis_points.specs.declared.boxes.Box4.{Box4}
use Rattle.lpis_tables.specs.Ids.{has_id, same_id}
use Rattle.lpis_release.specs.declared.parcel.Parcel.{Parcel}
use Rattle.lpis_release.specs.Release.{Contents, pieces_named}
use Rattle.lpis_release.specs.Equality.{same_pieces, same_polygon}
use Rattle.lpis_country.specs.Tiling.{reaches}
use Rattle.lpis_country_seam.specs.declared.kept.KeptRow.{KeptRow}
use Rattle.lpis_country_seam.specs.declared.fault.SeamCode.TheVariants.{Elsewhere, Reused}
use Rattle.lpis_country_seam.specs.declared.fault.SeamCode.TheVariants.{Differs, Lacks}
use Rattle.lpis_country_seam.specs.declared.fault.SeamFault.{SeamFault}
use Rattle.lpis_country_seam.specs.declared.fault.SeamFault.TheVariants.{At}
use Rattle.lpis_country_seam.specs.Faults.{is_lacking, reached, reaches_own, seam_fault_if}

-- the kept row is that of the parcel of a region
abbrev pub is_kept_row_of : KeptRow → Contents → Parcel → Bool
is_kept_row_of o r k = same_polygon o.parcel.polygon k.polygon
    && same_pieces o.pieces (pieces_named r k.id)

-- the kept row of an identifier
abbrev pub row_named : List KeptRow → List ℕ → Option KeptRow
row_named kept id = find (λ (o : KeptRow). same_id id o.parcel.id) kept

-- a parcel that was there, by a kept row of its identifier
abbrev pub row_faults : List Box4 → ℕ → Contents → Parcel → KeptRow → List SeamFault
row_faults tiles n r k o = cond (list_any (reaches o.parcel) (drop n tiles))
    (seam_fault_if (not (is_kept_row_of o r k)) (At Differs k.id n)) (At Reused k.id n ∷ [])

-- by that row, if there is one
abbrev pub known_faults : List Box4 → ℕ → Contents → Parcel → Option KeptRow → List SeamFault
known_faults tiles n r k (Some o) = row_faults tiles n r k o
known_faults tiles n r k None = At Reused k.id n ∷ []

-- a parcel that was not
abbrev pub fresh_faults : List Box4 → ℕ → Parcel → List SeamFault
fresh_faults tiles n k = map (At Lacks k.id) (reached 0 (take n tiles) k)

-- the faults of a row
abbrev pub tested_row : List Box4 → ℕ → List (List ℕ) → List KeptRow → Contents → Parcel
    → List SeamFault
tested_row tiles n ids kept r k =
    seam_fault_if (not (reaches_own tiles n k)) (At Elsewhere k.id n)
    ++ cond (has_id ids k.id) (known_faults tiles n r k (row_named kept k.id))
    (fresh_faults tiles n k)

-- the faults of kept rows that the region lacks
abbrev pub tested_kept : List Box4 → ℕ → List KeptRow → Contents → List SeamFault
tested_kept tiles n kept r = map (λ (o : KeptRow). At Lacks o.parcel.id n)
    (filter (λ (o : KeptRow). is_lacking tiles n r o.parcel) kept)

-- the parcel has none of these identifiers
abbrev pub is_fresh : List (List ℕ) → Parcel → Bool
is_fresh ids k = not (has_id ids k.id)
