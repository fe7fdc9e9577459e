-- Shapes by identifier: those of a release, and those that a register keeps.
use Rattle.std.specs.Prelude.{ℕ, List, map, Option, IsPermutation}
use Rattle.std.specs.Map.{lookup}
use Rattle.lpis_rings.specs.declared.polygon.Member.{Member}
use Rattle.lpis_tables.specs.Ids.{same_id}
use Rattle.lpis_release.specs.declared.parcel.Parcel.{Parcel}
use Rattle.lpis_release.specs.Release.{Contents}
use Rattle.lpis_register_rows.specs.Shapes.{Shape, parcel_shape as shape_of_parcel}
use Rattle.lpis_checker.specs.SoundMap.{IsSoundMap}
use Rattle.lpis_lineage_exact.specs.ExactLineage.{ShapesShareNothing, ShapesTurnOnce}

-- the shape of an identifier, where the list has one
abbrev pub shape_named : List Shape → List ℕ → Option (List Member)
shape_named shapes id = lookup (same_id id) shapes

-- the shapes of parcels
abbrev pub shapes_in : List Parcel → List Shape
shapes_in parcels = map shape_of_parcel parcels

-- the laws, of the shapes of a sound map in whatever order: each turns once at most
abbrev pub SoundMapsTurnOnce : Type 0
SoundMapsTurnOnce = (r : Contents) (shapes : List Shape) → IsSoundMap r
    → IsPermutation (shapes_in r.parcels) shapes → ShapesTurnOnce (shape_named shapes)

-- and no point lies in two of them
abbrev pub SoundMapsShareNothing : Type 0
SoundMapsShareNothing = (r : Contents) (shapes : List Shape) → IsSoundMap r
    → IsPermutation (shapes_in r.parcels) shapes → ShapesShareNothing (shape_named shapes)
