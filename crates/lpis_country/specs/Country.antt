-- The country of a list of regions, in which a parcel near a border may stand more than once.
use Rattle.std.specs.Prelude.{Bool, not, ℕ, List, [], ◌∷◌, ◌++◌, All, Any, IsTrue, filter}
use Rattle.std.specs.List.{IsDistinct}
use Rattle.lpis_tables.specs.declared.class.Class.{Class}
use Rattle.lpis_tables.specs.declared.piece.Piece.{Piece}
use Rattle.lpis_tables.specs.Ids.{has_id, same_id}
use Rattle.lpis_release.specs.declared.parcel.Parcel.{Parcel}
use Rattle.lpis_release.specs.Release.{Contents, names_parcel, parcel_ids}
use Rattle.lpis_country.specs.Polygons.{HasClosedRings}

-- no identifier of a parcel stands twice, each piece names a parcel that is there, and the rings
-- are closed
pub record IsRegion (r : Contents) : Type 0 where
  pub distinct : IsDistinct same_id (parcel_ids r.parcels)
  pub named : All (λ (x : Piece). Any (λ (k : Parcel). IsTrue (names_parcel k.id x)) r.parcels)
      r.pieces
  pub closed : All (λ (k : Parcel). HasClosedRings k.polygon) r.parcels

-- the country has no parcel of this identifier
abbrev pub is_new : Contents → List ℕ → Bool
is_new country id = not (has_id (parcel_ids country.parcels) id)

-- the parcels of a region that are new to the country
abbrev pub new_parcels : Contents → Contents → List Parcel
new_parcels country r = filter (λ (k : Parcel). is_new country k.id) r.parcels

-- the pieces of these parcels
abbrev pub new_pieces : Contents → Contents → List Piece
new_pieces country r = filter (λ (x : Piece). is_new country x.parcel) r.pieces

-- the country with one region more: its new parcels with their pieces
abbrev pub with_region : Contents → Contents → Contents
with_region country r = record {
  parcels = country.parcels ++ new_parcels country r;
  pieces = country.pieces ++ new_pieces country r;
  classes = country.classes;
}

-- the country with these regions more, one after the other
abbrev pub with_regions : Contents → List Contents → Contents
with_regions country [] = country
with_regions country (r ∷ rs) = with_regions (with_region country r) rs

-- the country of these regions
abbrev pub country_of : List Class → List Contents → Contents
country_of classes regions =
    with_regions (record { parcels = []; pieces = []; classes = classes }) regions
