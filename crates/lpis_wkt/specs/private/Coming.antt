-- Coordinates that come first among tokens.
use Rattle.std.specs.Prelude.{◌≡◌, ℕ, List, ◌∷◌, Ok}
use Rattle.lpis_wkt.specs.declared.coordinate.Coordinate.{Coordinate}
use Rattle.lpis_wkt.specs.declared.tokens.Ahead.{Ahead}
use Rattle.lpis_wkt.specs.declared.tokens.Ahead.TheVariants.{Nothing, X, Point}
use Rattle.lpis_wkt.specs.Tokens.{Token, Word}
use Rattle.lpis_wkt.specs.private.Coordinates.{coordinate_in_range}

-- the first token is the word of a coordinate, and these come behind it
abbrev pub ComesFirst : Coordinate → List (ℕ × Token) → List (ℕ × Token) → Type 0
ComesFirst z ts rest = (offset : ℕ) × (word : List ℕ) × (coordinate_in_range word ≡ Ok z)
    × (ts ≡ (offset, Word word) ∷ rest)

-- the first two tokens are the words of two coordinates
abbrev pub ComeFirst : Coordinate → Coordinate → List (ℕ × Token) → List (ℕ × Token) → Type 0
ComeFirst x y ts rest = (more : List (ℕ × Token)) × ComesFirst x ts more × ComesFirst y more rest

-- what was taken came first
abbrev pub Took : Ahead → List (ℕ × Token) → List (ℕ × Token) → Type 0
Took Nothing ts rest = rest ≡ ts
Took (X x) ts rest = ComesFirst x ts rest
Took (Point x y) ts rest = ComeFirst x y ts rest
