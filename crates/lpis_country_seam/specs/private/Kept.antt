-- Lists of kept rows.
use Rattle.std.specs.Prelude.{◌≡◌, ◌⊎◌, ◌++◌, ◌∷◌, ℕ, List, [], cond, map, filter, flat_map}
use Rattle.std.specs.Prelude.{option_to_list}
use Rattle.std.specs.Prelude.{slice_get}
use Rattle.std.specs.List.{list_any}
use Rattle.lpis_points.specs.declared.boxes.Box4.{Box4}
use Rattle.lpis_tables.specs.Ids.{has_id}
use Rattle.lpis_release.specs.declared.parcel.Parcel.{Parcel}
use Rattle.lpis_release.specs.Release.{Contents, pieces_named}
use Rattle.lpis_country.specs.Polygons.{box_of_members}
use Rattle.lpis_country.specs.Tiling.{reaches}
use Rattle.lpis_country_seam.specs.declared.kept.KeptRow.{KeptRow}

abbrev pub row_ids : List KeptRow → List (List ℕ)
row_ids rows = map (λ (o : KeptRow). o.parcel.id) rows

-- the box of a row's parcel
abbrev pub row_box : KeptRow → Box4
row_box o = box_of_members o.parcel.polygon

-- the row of a parcel of a region
abbrev pub row_in : Contents → Parcel → KeptRow
row_in r k = record { parcel = k; pieces = pieces_named r k.id }

-- the rows with one more, unless one of its identifier is there
abbrev pub with_kept_row : List KeptRow → KeptRow → List KeptRow
with_kept_row rows o = cond (has_id (row_ids rows) o.parcel.id) rows (rows ++ o ∷ [])

-- the same of several, one after the other
abbrev pub with_rows : List KeptRow → List KeptRow → List KeptRow
with_rows rows [] = rows
with_rows rows (o ∷ os) = with_rows (with_kept_row rows o) os

-- the rows of parcels whose boxes meet one of these tiles
abbrev pub rows_reaching : List Box4 → List KeptRow → List KeptRow
rows_reaching tiles rows = filter (λ (o : KeptRow). list_any (reaches o.parcel) tiles) rows

-- the rows are these, or those of them whose boxes meet one of these tiles
abbrev pub AreThinned : List Box4 → List KeptRow → List KeptRow → Type 0
AreThinned tiles kept rows = (rows ≡ kept) ⊎ (rows ≡ with_rows [] (rows_reaching tiles kept))

-- those of the parcels of a region
abbrev pub new_rows : List Box4 → Contents → List Parcel → List KeptRow
new_rows tiles r parcels =
    map (row_in r) (filter (λ (k : Parcel). list_any (reaches k) tiles) parcels)

-- the parcels at these places
abbrev pub at_places : List Parcel → List ℕ → List Parcel
at_places parcels places = flat_map (λ (i : ℕ). option_to_list (slice_get parcels i)) places
