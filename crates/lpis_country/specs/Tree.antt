-- How a country is cut into regions.
use Rattle.std.specs.Prelude.{ℕ, ℤ, List, [], ◌∷◌, ◌++◌}

-- the folder of a region, by its name; or two parts that a line of one x, or of one y, keeps apart:
-- the part left of the line, or below it, and the part from it on
pub data Tree : Type 0 where
  folder : List ℕ → Tree
  by_x : ℤ → Tree → Tree → Tree
  by_y : ℤ → Tree → Tree → Tree

-- the names of the folders, in the order in which their regions are read
abbrev pub folders : Tree → List (List ℕ)
folders (folder name) = name ∷ []
folders (by_x c s t) = folders s ++ folders t
folders (by_y c s t) = folders s ++ folders t
