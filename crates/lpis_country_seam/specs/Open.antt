-- What is kept of the regions that were let go.
use Rattle.std.specs.Prelude.{◌≡◌, ◌<◌, Bool, true, ℕ, List, [], ◌∷◌, ◌++◌, length, map}
use Rattle.std.specs.Prelude.{filter, All}
use Rattle.lpis_points.specs.declared.boxes.Box4.{Box4}
use Rattle.lpis_tables.specs.declared.class.Class.{Class}
use Rattle.lpis_tables.specs.Ids.{has_id}
use Rattle.lpis_release.specs.declared.parcel.Parcel.{Parcel}
use Rattle.lpis_release.specs.Release.{Contents, parcel_ids, pieces_named}
use Rattle.lpis_country.specs.Country.{IsRegion, country_of}
use Rattle.lpis_country_seam.specs.declared.kept.KeptRow.{KeptRow}
use Rattle.lpis_country_seam.specs.declared.seam.OpenSeam.{OpenSeam}
use Rattle.lpis_country_seam.specs.Faults.{reaches_later, seam_faults}

-- the rows of those parcels of the country that pass this test
abbrev pub rows_of_kept : (Parcel → Bool) → Contents → List KeptRow
rows_of_kept is_kept country =
    map (λ (k : Parcel). record { parcel = k; pieces = pieces_named country k.id })
    (filter is_kept country.parcels)

-- the rows are those of some parcels of the country, in its order, among them of each whose box
-- meets a tile from number n on
pub record HaveAwaited (tiles : List Box4) (n : ℕ) (country : Contents) (rows : List KeptRow)
    : Type 0 where
  pub is_kept : Parcel → Bool
  pub are : rows ≡ rows_of_kept is_kept country
  pub awaited : (k : Parcel) → reaches_later tiles n k ≡ true → is_kept k ≡ true

-- these regions, one after the other, have the classes and no fault of the seam
pub record AreJoined (tiles : List Box4) (classes : List Class) (regions : List Contents)
    : Type 0 where
  pub regions_are : All IsRegion regions
  pub classes_are : All (λ (r : Contents). r.classes ≡ classes) regions
  pub faultless : (before : List Contents) (r : Contents) (after : List Contents)
      → regions ≡ before ++ r ∷ after → seam_faults tiles classes before r ≡ []

-- the seam is that of these regions, which were read and let go: it has their number, the
-- identifiers of their parcels, and rows, among them those that later ones need
pub record IsSeamOf (tiles : List Box4) (classes : List Class) (done : List Contents)
    (seam : OpenSeam) : Type 0 where
  pub tiles_are : seam.tiles.items ≡ tiles
  pub classes_are : seam.classes.items ≡ classes
  pub number : seam.next ≡ length done
  pub ids_are : (id : List ℕ) → has_id seam.ids id
      ≡ has_id (parcel_ids (country_of classes done).parcels) id
  pub rows_are : HaveAwaited tiles (length done) (country_of classes done) seam.kept
  pub joined : AreJoined tiles classes done

-- there is a tile for the next region
abbrev pub HasNext : OpenSeam → Type 0
HasNext seam = seam.next < length seam.tiles.items
