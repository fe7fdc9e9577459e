-- The table of faults: what is expected after some tokens, what comes, and the code.
use Rattle.std.specs.Prelude.{◌≡◌, ℕ, ◌<◌, cond, ◌==◌, ◌||◌, Bool, List, [], ◌∷◌, ◌++◌, length}
use Rattle.std.specs.Prelude.{take, Result, Ok, Err, codes, nat_lt}
use Rattle.std.specs.Str.{str_eq_ignore_ascii_case}
use Rattle.lpis_points.specs.declared.point.Point.{Point}
use Rattle.lpis_wkt.specs.declared.fault.WktCode.{WktCode}
use Rattle.lpis_wkt.specs.declared.fault.WktCode.TheVariants.{Keyword, Empty, Dimension}
use Rattle.lpis_wkt.specs.declared.fault.WktCode.TheVariants.{TooFewPoints, NotClosed, Syntax}
use Rattle.lpis_wkt.specs.declared.fault.WktCode.TheVariants.{TooManyPoints}
use Rattle.lpis_wkt.specs.Tokens.{Token, Open, Close, Word, End, kinds}
use Rattle.lpis_wkt.specs.Number.{number}
use Rattle.lpis_wkt.specs.Grammar.{PointText, Commas}
use Rattle.lpis_wkt.specs.Viable.{Stands, Viable, token_words, most_words}

-- words that are compared in any mix of ASCII cases
abbrev pub is_dimension : List ℕ → Bool
is_dimension w = str_eq_ignore_ascii_case w (codes "Z") || str_eq_ignore_ascii_case w (codes "M")
    || str_eq_ignore_ascii_case w (codes "ZM")

abbrev pub is_empty_word : List ℕ → Bool
is_empty_word w = str_eq_ignore_ascii_case w (codes "EMPTY")

abbrev pub is_keyword_with_dimension : List ℕ → Bool
is_keyword_with_dimension w =
    str_eq_ignore_ascii_case w (codes "POLYGONZ") || str_eq_ignore_ascii_case w (codes "POLYGONM")
    || str_eq_ignore_ascii_case w (codes "POLYGONZM")
    || str_eq_ignore_ascii_case w (codes "MULTIPOLYGONZ")
    || str_eq_ignore_ascii_case w (codes "MULTIPOLYGONM") || str_eq_ignore_ascii_case w
    (codes "MULTIPOLYGONZM")

abbrev pub has_srid : List ℕ → Bool
has_srid w = str_eq_ignore_ascii_case (take 5 w) (codes "SRID=")

-- a keyword is expected
abbrev pub keyword_code : Token → WktCode
keyword_code (Word w) = cond (has_srid w || is_keyword_with_dimension w) Dimension Keyword
keyword_code _ = Keyword

-- a `(` is expected
abbrev pub open_code : Token → WktCode
open_code (Word w) = cond (is_empty_word w) Empty Syntax
open_code _ = Syntax

-- the `(` directly after the keyword is expected
abbrev pub first_open_code : Token → WktCode
first_open_code (Word w) = cond (is_dimension w) Dimension (open_code (Word w))
first_open_code t = open_code t

-- what is wrong with a number
abbrev pub number_code : {A : Type 0} → Result A WktCode → WktCode
number_code (Ok z) = Syntax
number_code (Err code) = code

-- an x or a y is expected, after so many words
abbrev pub coordinate_code : ℕ → Token → WktCode
coordinate_code n (Word w) = cond (n == most_words) TooManyPoints (number_code (number w))
coordinate_code n _ = Syntax

-- `,` or `)` is expected after these points of a ring; a `)` that cannot stand there comes too
-- early, or closes no ring
abbrev pub point_code : List Point → Token → WktCode
point_code ps (Word w) = Dimension
point_code ps Close = cond (nat_lt (length ps) 4) TooFewPoints NotClosed
point_code ps _ = Syntax

-- a ring is open, and these are its points so far, each with its y
abbrev pub RingSoFar : List Token → List Point → Type 0
RingSoFar before ps = (front body : List Token) × (before ≡ front ++ Open ∷ body)
    × Commas PointText ps body

abbrev pub EndsWith : List Token → Token → Type 0
EndsWith before t = (front : List Token) × (before ≡ front ++ t ∷ [])

-- what is expected after these tokens, and the code where this token comes and cannot stand
pub data TableCode : List Token → Token → WktCode → Type 0 where
  at_keyword : {t : Token} → TableCode [] t (keyword_code t)
  at_first_open : {before : List Token} {t : Token} → Stands before Open → length before ≡ 1
      → TableCode before t (first_open_code t)
  at_open : {before : List Token} {t : Token} → Stands before Open → 1 < length before
      → TableCode before t (open_code t)
  at_coordinate : {before : List Token} {t : Token} → Stands before (Word (codes "0"))
      → TableCode before t (coordinate_code (token_words before) t)
  at_after_point : {before : List Token} {t : Token} (ps : List Point) → RingSoFar before ps
      → TableCode before t (point_code ps t)
  at_after_close : {before : List Token} {t : Token} → EndsWith before Close
      → TableCode before t Syntax
  at_past_end : {before : List Token} {t : Token} → EndsWith before End → TableCode before t Syntax

-- At this offset stands the last token of the shortest prefix that is not viable, and this is its
-- code.
abbrev pub FirstFault : List (ℕ × Token) → WktCode → ℕ → Type 0
FirstFault ts code offset = (before : List (ℕ × Token)) × (t : Token) × (after : List (ℕ × Token))
    × (ts ≡ before ++ (offset, t) ∷ after) × Viable (kinds before)
    × (Viable (kinds before ++ t ∷ []) → ⊥) × TableCode (kinds before) t code
