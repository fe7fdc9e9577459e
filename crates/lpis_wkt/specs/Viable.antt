-- Which tokens can stand where they stand.
use Rattle.std.specs.Prelude.{ℕ, suc, ◌+◌, ◌*◌, ◌≤◌, List, [], ◌∷◌, ◌++◌}
use Rattle.lpis_rings.specs.declared.polygon.Member.{Member}
use Rattle.lpis_rings.specs.Polygon.{most_points}
use Rattle.lpis_wkt.specs.Tokens.{Token, Word}
use Rattle.lpis_wkt.specs.Grammar.{Reads}

-- some text of the grammar, of any number of points, begins with these tokens
abbrev pub BeginsText : List Token → Type 0
BeginsText ts = (rest : List Token) × (members : List Member) × Reads (ts ++ rest) members

-- the token can stand after those before it, the number of points set aside
abbrev pub Stands : List Token → Token → Type 0
Stands before t = BeginsText (before ++ t ∷ [])

abbrev pub token_words : List Token → ℕ
token_words [] = 0
token_words (Word w ∷ ts) = suc (token_words ts)
token_words (_ ∷ ts) = token_words ts

-- The keyword is the first word, and then x and y come in turn: so this many words stand before the
-- x of the first point past the most.
abbrev pub most_words : ℕ
most_words = 2 * most_points + 1

-- Some text of the grammar begins with these tokens, and no x of a point past the most stands in
-- them.
abbrev pub Viable : List Token → Type 0
Viable ts = BeginsText ts × (token_words ts ≤ most_words)
