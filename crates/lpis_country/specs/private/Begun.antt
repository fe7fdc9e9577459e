-- A plan of which some lines were read.
use Rattle.std.specs.Prelude.{◌≡◌, ℕ, ◌≤◌, ℤ, List, [], ◌∷◌, ◌++◌, length}
use Rattle.std.specs.List.{AllByRecursion, IsDistinct, flat_map}
use Rattle.std.specs.Int.{int_max, int_min}
use Rattle.std.specs.Str.{bytes_eq}
use Rattle.lpis_points.specs.declared.boxes.Box4.{Box4}
use Rattle.lpis_country.specs.Tiling.{rectangles, frame}
use Rattle.lpis_country.specs.Limits.{most_regions}
use Rattle.lpis_country.specs.Tree.{Tree}
use Rattle.lpis_country.specs.CountryText.{TreeLine, x_line, y_line, region_line}
use Rattle.lpis_country.specs.CountryText.{tree_lines, TreeLineFits}
use Rattle.lpis_country.specs.Faults.{Owing}

-- the names that lines say
abbrev pub names_listed : List TreeLine → List (List ℕ)
names_listed [] = []
names_listed (x_line c ∷ ls) = names_listed ls
names_listed (y_line c ∷ ls) = names_listed ls
names_listed (region_line name ∷ ls) = name ∷ names_listed ls

-- the tiles of trees, each in its own rectangle
abbrev pub tiles_in : List Box4 → List Tree → List Box4
tiles_in [] ts = []
tiles_in (b ∷ bs) [] = []
tiles_in (b ∷ bs) (t ∷ ts) = rectangles t b ++ tiles_in bs ts

-- a tree whose lines are these and then those of further trees, and whose tiles likewise
pub record IsCompletedBy (said : List TreeLine) (tiles rooms : List Box4) (ts : List Tree)
    (t : Tree) : Type 0
  where
    pub lines_are : tree_lines t ≡ said ++ flat_map tree_lines ts
    pub tiles_are : rectangles t frame ≡ tiles ++ tiles_in rooms ts

-- these lines were read: these names and tiles have been given out, and these rectangles are to be
-- cut by the trees that follow, whichever they are
pub record IsPlanBegun (said : List TreeLine) (names : List (List ℕ)) (tiles rooms : List Box4)
    : Type 0
  where
    pub fits : AllByRecursion TreeLineFits said
    pub names_are : names ≡ names_listed said
    pub distinct : IsDistinct bytes_eq names
    pub few : length names ≤ most_regions
    pub completed : (ts : List Tree) → length ts ≡ length rooms
        → (t : Tree) × IsCompletedBy said tiles rooms ts t

-- ---- the parts that a cut leaves

abbrev pub west_of : Box4 → ℤ → Box4
west_of b c = record { x0 = b.x0; y0 = b.y0; x1 = int_min b.x1 c; y1 = b.y1 }

abbrev pub east_of : Box4 → ℤ → Box4
east_of b c = record { x0 = int_max b.x0 c; y0 = b.y0; x1 = b.x1; y1 = b.y1 }

abbrev pub south_of : Box4 → ℤ → Box4
south_of b c = record { x0 = b.x0; y0 = b.y0; x1 = b.x1; y1 = int_min b.y1 c }

abbrev pub north_of : Box4 → ℤ → Box4
north_of b c = record { x0 = b.x0; y0 = int_max b.y0 c; x1 = b.x1; y1 = b.y1 }

-- ---- what is owed

abbrev pub owes : ℕ → List (List ℕ) → Owing
owes k names = record { owed = k; names = names }
