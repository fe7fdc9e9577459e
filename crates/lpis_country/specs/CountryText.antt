-- The text of a country's plan.
use Rattle.std.specs.Prelude.{◌≡◌, ℕ, ◌≤◌, ◌==◌, ◌&&◌, ◌||◌, nat_le, Bool, true, ℤ, List, [], ◌∷◌}
use Rattle.std.specs.Prelude.{◌++◌, length, codes}
use Rattle.std.specs.Fmt.{signed_decimal}
use Rattle.std.specs.List.{AllByRecursion, IsDistinct, list_all}
use Rattle.std.specs.Str.{bytes_eq}
use Rattle.lpis_points.specs.Range.{IsInRange}
use Rattle.lpis_country.specs.Limits.{most_regions, longest_name}
use Rattle.lpis_country.specs.Tree.{Tree, folder, by_x, by_y, folders}

-- what a line after the first says
pub data TreeLine : Type 0 where
  x_line : ℤ → TreeLine
  y_line : ℤ → TreeLine
  region_line : List ℕ → TreeLine

-- the lines of a tree: a cut, then the part left of it or below it, then the part from it on
abbrev pub tree_lines : Tree → List TreeLine
tree_lines (folder name) = region_line name ∷ []
tree_lines (by_x c s t) = x_line c ∷ (tree_lines s ++ tree_lines t)
tree_lines (by_y c s t) = y_line c ∷ (tree_lines s ++ tree_lines t)

abbrev pub tree_line_text : TreeLine → List ℕ
tree_line_text (x_line c) = codes "x " ++ signed_decimal c
tree_line_text (y_line c) = codes "y " ++ signed_decimal c
tree_line_text (region_line name) = codes "region " ++ name

-- each line ends with one line feed
unfoldable pub tree_lines_text : List TreeLine → List ℕ
tree_lines_text [] = []
tree_lines_text (l ∷ ls) = tree_line_text l ++ (10 ∷ tree_lines_text ls)

-- the first line, without its line feed
abbrev pub country_head : List ℕ
country_head = codes "lpis-country 1"

-- the text of country.txt
unfoldable pub country_text : Tree → List ℕ
country_text t = country_head ++ (10 ∷ tree_lines_text (tree_lines t))

-- ---- which trees have a text

abbrev pub is_within : ℕ → ℕ → ℕ → Bool
is_within low high b = nat_le low b && nat_le b high

-- a character of a region's name: a-z, A-Z, 0-9, _ or -
abbrev pub is_name_byte : ℕ → Bool
is_name_byte b = is_within 97 122 b
    || (is_within 65 90 b || (is_within 48 57 b || (b == 95 || b == 45)))

-- the name of a region: 1 to the most of these characters
abbrev pub is_region_name : List ℕ → Bool
is_region_name bytes = (nat_le 1 (length bytes) && nat_le (length bytes) longest_name)
    && list_all is_name_byte bytes

abbrev pub TreeLineFits : TreeLine → Type 0
TreeLineFits (x_line c) = IsInRange c
TreeLineFits (y_line c) = IsInRange c
TreeLineFits (region_line name) = is_region_name name ≡ true

-- its numbers are coordinates, its names are names, none stands twice, and they are not too many
pub record TreeFits (t : Tree) : Type 0 where
  pub lines : AllByRecursion TreeLineFits (tree_lines t)
  pub distinct : IsDistinct bytes_eq (folders t)
  pub few : length (folders t) ≤ most_regions

-- the text is that of the tree
pub record IsCountryText (text : List ℕ) (t : Tree) : Type 0 where
  pub fits : TreeFits t
  pub is : text ≡ country_text t
