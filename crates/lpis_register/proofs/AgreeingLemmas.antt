-- Rows that a table shows, read as its columns.
use Rattle.std.proofs.Common.{◌≡◌, ◌∙◌, ap, ap₂, map, refl, sym, take, [], ◌∷◌, ℕ, List}
use Rattle.sqlite.specs.Order.{Row}
use Rattle.lpis_register_sql.specs.private.Shown.{format_shown, line_shown, live_shown, mark_shown, span_shown, text_shown, year_shown}

-- ---- rows whose columns are those of a content are read as it, since no column beyond is read

-- of a row of `lpis_format`
pub format_cut : (r : Row) → format_shown (take 2 r) ≡ format_shown r
format_cut [] = refl
format_cut (a ∷ []) = refl
format_cut (a ∷ b ∷ r) = refl

-- of a year
pub year_cut : (r : Row) → year_shown (take 1 r) ≡ year_shown r
year_cut [] = refl
year_cut (a ∷ r) = refl

-- of a span
pub span_cut : (r : Row) → span_shown (take 3 r) ≡ span_shown r
span_cut [] = refl
span_cut (a ∷ []) = refl
span_cut (a ∷ b ∷ []) = refl
span_cut (a ∷ b ∷ c ∷ r) = refl

-- of a row of lineage
pub line_cut : (r : Row) → line_shown (take 4 r) ≡ line_shown r
line_cut [] = refl
line_cut (a ∷ []) = refl
line_cut (a ∷ b ∷ []) = refl
line_cut (a ∷ b ∷ c ∷ []) = refl
line_cut (a ∷ b ∷ c ∷ d ∷ r) = refl

-- of a live identifier
pub live_cut : (r : Row) → live_shown (take 2 r) ≡ live_shown r
live_cut [] = refl
live_cut (a ∷ []) = refl
live_cut (a ∷ b ∷ r) = refl

-- of a text
pub text_cut : (r : Row) → text_shown (take 2 r) ≡ text_shown r
text_cut [] = refl
text_cut (a ∷ []) = refl
text_cut (a ∷ b ∷ r) = refl

-- of a mark
pub mark_cut : (r : Row) → mark_shown (take 2 r) ≡ mark_shown r
mark_cut [] = refl
mark_cut (a ∷ []) = refl
mark_cut (a ∷ b ∷ r) = refl

-- items written as rows and read again are the same list, where each alone reads back
reads_back : {X : Type 0} (row : X → Row) (g : Row → X) → ((x : X) → g (row x) ≡ x) → (xs : List X) → map g (map row xs) ≡ xs
reads_back row g same [] = refl
reads_back row g same (x ∷ xs) = ap₂ ◌∷◌ (same x) (reads_back row g same xs)

module _ {X : Type 0} (columns : X → Row) (shown : Row → X) (n : ℕ) (cut : (r : Row) → shown (take n r) ≡ shown r) (back : (x : X) → shown (columns x) ≡ x) where
  all_cut : (rows : List Row) → map shown (map (take n) rows) ≡ map shown rows
  all_cut [] = refl
  all_cut (r ∷ rows) = ap₂ ◌∷◌ (cut r) (all_cut rows)

  -- so of all rows
  pub rows_are : (rows : List Row) (xs : List X) → map (take n) rows ≡ map columns xs → map shown rows ≡ xs
  rows_are rows xs are = sym (all_cut rows) ∙ ap (map shown) are ∙ reads_back columns shown back xs
