-- When a country is the union of its regions.
use Rattle.std.specs.Prelude.{◌≡◌, List, All, Any, IsTrue}
use Rattle.std.specs.Prelude.{Contains as IsAmong}
use Rattle.std.specs.List.{IsDistinct}
use Rattle.lpis_tables.specs.declared.piece.Piece.{Piece}
use Rattle.lpis_tables.specs.Ids.{same_id}
use Rattle.lpis_release.specs.declared.parcel.Parcel.{Parcel}
use Rattle.lpis_release.specs.Release.{Contents, names_parcel, parcel_ids, pieces_named}

-- the parcel of a region stands in the country too, with the same identifier and polygon, and with
-- the same pieces in the same order
pub record IsDouble (country r : Contents) (k : Parcel) : Type 0 where
  pub row : IsAmong country.parcels k
  pub pieces : pieces_named country k.id ≡ pieces_named r k.id

-- the country has each parcel of each region, and no other; each identifier once, no piece without
-- its parcel, and the classes of all
pub record IsUnion (regions : List Contents) (country : Contents) : Type 0 where
  pub distinct : IsDistinct same_id (parcel_ids country.parcels)
  pub from : All (λ (k : Parcel). Any (λ (r : Contents). IsAmong r.parcels k) regions)
      country.parcels
  pub doubles : All (λ (r : Contents). All (IsDouble country r) r.parcels) regions
  pub named : All (λ (x : Piece). Any (λ (k : Parcel). IsTrue (names_parcel k.id x))
      country.parcels) country.pieces
  pub classes : All (λ (r : Contents). r.classes ≡ country.classes) regions
