-- The bytes that a run has read.
use Rattle.std.specs.Prelude.{ℕ, List, Vec}
use Rattle.std.specs.declared.alloc.Global.{Global}
use Rattle.lpis_run.specs.CheckAnswer.{Inputs}
use Rattle.lpis_run.specs.Inputs.{inputs_of, top_of}
use Rattle.lpis_run.specs.declared.folder.Folder.{Folder}
use Rattle.lpis_run.specs.declared.folder.Top.{Top}
use Rattle.lpis_run_country.specs.Regions.{CountryInputs}
use Rattle.lpis_run_locate.specs.LocateAnswer.{points_by}
use Rattle.lpis_run_locate.specs.declared.points_in.PointsIn.{PointsIn}

-- those of a release's files, and of a table of points
abbrev pub LocateInputs : Type 0
LocateInputs = PointsIn Inputs (List ℕ)

-- those of the two files at the top of a country's folder, and of a table of points
abbrev pub LocateCountryInputs : Type 0
LocateCountryInputs = PointsIn CountryInputs (List ℕ)

abbrev pub locate_inputs_of : PointsIn (Folder (Vec ℕ Global)) (Vec ℕ Global) → LocateInputs
locate_inputs_of = points_by inputs_of (λ v. v.items)

abbrev pub locate_country_inputs_of : PointsIn (Top (Vec ℕ Global)) (Vec ℕ Global)
    → LocateCountryInputs
locate_country_inputs_of = points_by top_of (λ v. v.items)
