-- A release that may follow a history, with all that writing it takes.
use Rattle.std.specs.Prelude.{◌≡◌, ◌<◌, List}
use Rattle.std.specs.List.{AllByRecursion}
use Rattle.lpis_lineage_exact.specs.Asking.{IsShown, kinds_from}
use Rattle.lpis_lineage_exact.specs.ExactLineage.{IsExactLineage, ShapesTurnOnce}
use Rattle.lpis_lineage_exact.specs.Shapes.{shape_named, shapes_in}
use Rattle.lpis_lineage.specs.declared.row.Entry.{Entry}
use Rattle.lpis_lineage.specs.Lineage.{last_year}
use Rattle.lpis_lineage.specs.Steps.{IsStep}
use Rattle.lpis_release.specs.declared.parcel.Parcel.{Parcel}
use Rattle.lpis_release.specs.Release.{parcel_ids}
use Rattle.lpis_register_rows.specs.Shapes.{AreLive, AreShapesOf, IsSpelled, Shape}
use Rattle.lpis_register.specs.Holdings.{Candidate, Holdings, candidate_ids}
use Rattle.lpis_register.specs.declared.accepting.Accepted.{Accepted}

-- the shapes of these parcels, each of which the text that is written for it spells
pub record AreKept (parcels : List Parcel) (shapes : List Shape) : Type 0 where
  pub shapes_are : AreShapesOf parcels shapes
  pub live : AreLive (parcel_ids parcels) shapes
  pub spelled : AllByRecursion IsSpelled shapes

-- the candidate may follow this history by its lineage, and this is what writing it takes
pub record IsPrepared (c : Candidate) (before : List Entry) (a : Accepted) : Type 0 where
  pub later : last_year before < c.year
  pub year_is : a.writing.year ≡ c.year
  pub step_is : IsStep before (candidate_ids c) c.rows a.live a.writing.change
      a.writing.fresh.items
  pub kept_are : AreKept c.parcels a.writing.shapes.items

-- its exact splits and merges are those of points, by the shapes of before and its own
abbrev pub HasExactLineage : Candidate → Holdings → Type 0
HasExactLineage c before =
    IsExactLineage (kinds_from before.history c.parcels c.rows) c.rows
    (shape_named before.shapes) (shape_named (shapes_in c.parcels))

-- the candidate may follow what is held, and the blocks of its certificate show what its exact
-- groups ask for: it has exact lineage, and its own shapes turn once at most
pub record IsAccepted (c : Candidate) (before : Holdings) (a : Accepted) : Type 0 where
  pub prepared : IsPrepared c before.history a
  pub shown : IsShown before.history before.shapes c.parcels c.blocks c.rows
  pub exact : HasExactLineage c before
  pub once : ShapesTurnOnce (shape_named a.writing.shapes.items)

-- some candidate was accepted when this was held
abbrev pub WasMadeFor : Holdings → Accepted → Type 0
WasMadeFor before a = (c : Candidate) × IsAccepted c before a
