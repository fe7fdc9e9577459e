-- What is known before the first region is read.
use Rattle.std.specs.Prelude.{◌≡◌, ◌≤◌, ℕ, List, Ok, length}
use Rattle.lpis_points.specs.declared.boxes.Box4.{Box4}
use Rattle.lpis_tables.specs.Classes.{classes_table}
use Rattle.lpis_tables.specs.Faults.{rows_of}
use Rattle.lpis_tables.specs.declared.class.Class.{Class}
use Rattle.lpis_run.specs.CheckAnswer.{Answer}
use Rattle.lpis_run.specs.declared.detail.Detail.{Detail}
use Rattle.lpis_country.specs.Tiling.{frame, rectangles}
use Rattle.lpis_country.specs.CountryText.{IsCountryText}
use Rattle.lpis_country.specs.Limits.{most_regions}
use Rattle.lpis_country.specs.Tree.{Tree, folders}
use Rattle.lpis_run_country.specs.CountryAnswer.{IsTopAnswer, Setting}
use Rattle.lpis_run_country.specs.Regions.{CountryInputs, Texts}

-- the names of the folders, the tile of each, and the classes of all regions
pub record BegunParts : Type 0 where
  pub names : List (List ℕ)
  pub tiles : List Box4
  pub classes : List Class

-- there is a tile of a tiling for each name
pub record IsPlanned (names : List (List ℕ)) (tiles : List Box4) : Type 0 where
  pub tiling : Tree
  pub tiles_of : tiles ≡ rectangles tiling frame
  pub as_many : length names ≡ length tiles
  pub few : length names ≤ most_regions

-- they are those of the inputs
pub record IsBegun (x : CountryInputs) (b : BegunParts) : Type 0 where
  pub plan : Tree
  pub text : IsCountryText x.plan plan
  pub names_are : b.names ≡ folders plan
  pub tiles_are : b.tiles ≡ rectangles plan frame
  pub table : rows_of classes_table x.classes ≡ Ok b.classes

-- the setting of a run over their regions
abbrev pub setting_in : (List ℕ → Texts) → Detail → BegunParts → Setting
setting_in texts detail b = record {
  texts = texts;
  detail = detail;
  names = b.names;
  tiles = b.tiles;
  classes = b.classes;
}

-- the answer to inputs that have a fault before the first region: in the plan, or in the classes
abbrev pub IsUnbegun : CountryInputs → Answer → Type 0
IsUnbegun = IsTopAnswer (λ plan classes a. ⊥)
