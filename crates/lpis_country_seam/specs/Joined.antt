-- The end of a seam, and what is so of a country whose regions joined.
use Rattle.std.specs.Prelude.{◌≡◌, List, length, All}
use Rattle.lpis_tables.specs.declared.class.Class.{Class}
use Rattle.lpis_release.specs.declared.parcel.Parcel.{Parcel}
use Rattle.lpis_release.specs.Release.{Contents}
use Rattle.lpis_checker.specs.SoundMap.{IsSoundMap}
use Rattle.lpis_country.specs.Country.{country_of}
use Rattle.lpis_country.specs.Tiling.{rectangles, frame}
use Rattle.lpis_country.specs.Tree.{Tree}
use Rattle.lpis_country.specs.Union.{IsUnion}
use Rattle.lpis_country_seam.specs.declared.seam.OpenSeam.{OpenSeam}
use Rattle.lpis_country_seam.specs.Open.{IsSeamOf}

-- the seam is that of sound regions, one for each tile of a tiling, and these are the parcels of
-- their country
pub record HasEnded (state : OpenSeam) (parcels : List Parcel) : Type 0 where
  pub tiling : Tree
  pub classes : List Class
  pub regions : List Contents
  pub seam : IsSeamOf (rectangles tiling frame) classes regions state
  pub all : length regions ≡ length (rectangles tiling frame)
  pub sound : All IsSoundMap regions
  pub are : parcels ≡ (country_of classes regions).parcels

-- these are the parcels of a country that is a sound map and the union of its regions
pub record IsJoined (parcels : List Parcel) : Type 0 where
  pub classes : List Class
  pub regions : List Contents
  pub union : IsUnion regions (country_of classes regions)
  pub sound : IsSoundMap (country_of classes regions)
  pub are : (country_of classes regions).parcels ≡ parcels
