-- Laws of regions without a fault of the seam, as statements.
use Rattle.std.specs.Prelude.{◌≡◌, List, length, All}
use Rattle.lpis_points.specs.declared.boxes.Box4.{Box4}
use Rattle.lpis_tables.specs.declared.class.Class.{Class}
use Rattle.lpis_release.specs.Release.{Contents}
use Rattle.lpis_checker.specs.SoundMap.{IsSoundMap}
use Rattle.lpis_country.specs.Country.{country_of}
use Rattle.lpis_country.specs.Tiling.{rectangles, frame}
use Rattle.lpis_country.specs.Tree.{Tree}
use Rattle.lpis_country.specs.Union.{IsUnion}
use Rattle.lpis_country_seam.specs.Open.{AreJoined}

-- regions that are sound maps, one for each tile, none with a fault of the seam after those before
-- it, make a country that is a sound map
abbrev pub JoinedCountryIsSound : Type 0
JoinedCountryIsSound =
    (tiling : Tree) (classes : List Class) (regions : List Contents)
    → AreJoined (rectangles tiling frame) classes regions → All IsSoundMap regions
    → length regions ≡ length (rectangles tiling frame)
    → IsSoundMap (country_of classes regions)

-- regions none of which has a fault of the seam after those before it make their union
abbrev pub JoinedCountryIsUnion : Type 0
JoinedCountryIsUnion =
    (tiles : List Box4) (classes : List Class) (regions : List Contents)
    → AreJoined tiles classes regions → IsUnion regions (country_of classes regions)
