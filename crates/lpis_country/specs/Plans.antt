-- What a program holds of a country's plan.
use Rattle.std.specs.Prelude.{◌≡◌, ℕ, List}
use Rattle.lpis_points.specs.declared.boxes.Box4.{Box4}
use Rattle.lpis_country.specs.Tiling.{rectangles, frame}
use Rattle.lpis_country.specs.Tree.{Tree, folders}
use Rattle.lpis_country.specs.CountryText.{TreeFits}

-- the names of the regions, and their tiles in the same order
pub record PlanParts : Type 0 where
  pub names : List (List ℕ)
  pub tiles : List Box4

pub record IsPlanOf (t : Tree) (p : PlanParts) : Type 0 where
  pub fits : TreeFits t
  pub names : p.names ≡ folders t
  pub tiles : p.tiles ≡ rectangles t frame

abbrev pub IsPlan : PlanParts → Type 0
IsPlan p = (t : Tree) × IsPlanOf t p
