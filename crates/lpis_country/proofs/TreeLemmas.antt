-- Trees, their folders, tiles and lines.
use Rattle.std.proofs.Common.{◌≡◌, ℕ, ◌+◌, List, [], ◌∷◌, ◌++◌, length, refl, sym, ap, ap₂, ◌∙◌, append_assoc, length-append}
use Rattle.lpis_points.specs.declared.boxes.Box4.{Box4}
use Rattle.lpis_country.specs.Tiling.{rectangles}
use Rattle.lpis_country.specs.Tree.{Tree, folder, by_x, by_y, folders}
use Rattle.lpis_country.specs.CountryText.{TreeLine, x_line, y_line, region_line, tree_lines}
use Rattle.lpis_country.specs.private.Begun.{names_listed}

joined : {A B : Type 0} (xs ys : List A) (us vs : List B) → length xs ≡ length us → length ys ≡ length vs → length (xs ++ ys) ≡ length (us ++ vs)
joined xs ys us vs e f = length-append xs ys ∙ ap₂ (λ (m n : ℕ). m + n) e f ∙ sym (length-append us vs)

-- a tree has as many folders as tiles
pub as_many_tiles : (t : Tree) (b : Box4) → length (folders t) ≡ length (rectangles t b)
as_many_tiles (folder name) b = refl
as_many_tiles (by_x c s t) b = joined (folders s) (folders t) (rectangles s _) (rectangles t _) (as_many_tiles s _) (as_many_tiles t _)
as_many_tiles (by_y c s t) b = joined (folders s) (folders t) (rectangles s _) (rectangles t _) (as_many_tiles s _) (as_many_tiles t _)

-- the names that lines and further lines say are those of the first, and then those of the others
pub names_listed-append : (ls ms : List TreeLine) → names_listed (ls ++ ms) ≡ names_listed ls ++ names_listed ms
names_listed-append [] ms = refl
names_listed-append (x_line c ∷ ls) ms = names_listed-append ls ms
names_listed-append (y_line c ∷ ls) ms = names_listed-append ls ms
names_listed-append (region_line name ∷ ls) ms = ap (λ (ns : List (List ℕ)). name ∷ ns) (names_listed-append ls ms)

said_by_both : (a b : List (List ℕ)) (ls ms : List TreeLine) → a ≡ names_listed ls → b ≡ names_listed ms → a ++ b ≡ names_listed (ls ++ ms)
said_by_both a b ls ms e f = ap₂ (λ (x y : List (List ℕ)). x ++ y) e f ∙ sym (names_listed-append ls ms)

-- the folders of a tree are the names that its lines say
pub folders_said : (t : Tree) → folders t ≡ names_listed (tree_lines t)
folders_said (folder name) = refl
folders_said (by_x c s t) = said_by_both (folders s) (folders t) (tree_lines s) (tree_lines t) (folders_said s) (folders_said t)
folders_said (by_y c s t) = said_by_both (folders s) (folders t) (tree_lines s) (tree_lines t) (folders_said s) (folders_said t)

-- ---- a tree is told by its lines

same_region : (m n : List ℕ) (xs ys : List TreeLine) → ◌≡◌ {A = List TreeLine} (region_line m ∷ xs) (region_line n ∷ ys) → (folder m ≡ folder n) × (xs ≡ ys)
same_region m n xs ys e = (ap folder (cc e), cc e)

-- what two parts leave
both_fronts : (s t u v : Tree) (xs ys : List TreeLine) → (s ≡ u) × (tree_lines t ++ xs ≡ tree_lines v ++ ys) → (tree_lines t ++ xs ≡ tree_lines v ++ ys → (t ≡ v) × (xs ≡ ys))
    → (s ≡ u) × (t ≡ v) × (xs ≡ ys)
both_fronts s t u v xs ys first second = let next = second first.1 in (first.0, next.0, next.1)

apart : (s t u v : Tree) (xs ys : List TreeLine) → (tree_lines s ++ tree_lines t) ++ xs ≡ (tree_lines u ++ tree_lines v) ++ ys
    → tree_lines s ++ (tree_lines t ++ xs) ≡ tree_lines u ++ (tree_lines v ++ ys)
apart s t u v xs ys e = sym (append_assoc (tree_lines s) (tree_lines t) xs) ∙ e ∙ append_assoc (tree_lines u) (tree_lines v) ys

-- no tree's lines are the beginning of another's
pub same_front : (s t : Tree) (xs ys : List TreeLine) → tree_lines s ++ xs ≡ tree_lines t ++ ys → (s ≡ t) × (xs ≡ ys)
same_front (folder m) (folder n) xs ys e = same_region m n xs ys e
same_front (by_x c s t) (by_x d u v) xs ys e =
    let f = both_fronts s t u v xs ys (same_front s u (tree_lines t ++ xs) (tree_lines v ++ ys) (apart s t u v xs ys (cc e))) (same_front t v xs ys) in
    let cut : c ≡ d = cc e in
    let first = f.0 in
    let second = f.1 in
    (rw (cut, first, second) refl, f.2)
same_front (by_y c s t) (by_y d u v) xs ys e =
    let f = both_fronts s t u v xs ys (same_front s u (tree_lines t ++ xs) (tree_lines v ++ ys) (apart s t u v xs ys (cc e))) (same_front t v xs ys) in
    let cut : c ≡ d = cc e in
    let first = f.0 in
    let second = f.1 in
    (rw (cut, first, second) refl, f.2)
same_front s t xs ys e = absurd cc
