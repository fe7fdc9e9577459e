-- The grammar, as a relation of tokens and the polygon that they spell.
use Rattle.std.specs.Prelude.{◌≡◌, ◌⊎◌, ◌≤◌, ℕ, Bool, true, List, [], ◌∷◌, ◌++◌, Ok, codes}
use Rattle.std.specs.Str.{str_eq_ignore_ascii_case}
use Rattle.lpis_points.specs.declared.point.Point.{Point}
use Rattle.lpis_rings.specs.declared.polygon.Member.{Member}
use Rattle.lpis_rings.specs.Ring.{IsRing}
use Rattle.lpis_rings.specs.Polygon.{points_of, most_points}
use Rattle.lpis_wkt.specs.Tokens.{Token, Open, Close, Comma, Word, End}
use Rattle.lpis_wkt.specs.Number.{number}

-- one or more things, a comma between each two
abbrev pub Commas : {A : Type 0} → (A → List Token → Type 0) → List A → List Token → Type 0
Commas P [] ts = ⊥
Commas P (a ∷ []) ts = P a ts
Commas P (a ∷ b ∷ more) ts = (front back : List Token) × P a front × (ts ≡ front ++ Comma ∷ back)
    × Commas P (b ∷ more) back

-- a thing in parentheses
abbrev pub Parens : {A : Type 0} → (A → List Token → Type 0) → A → List Token → Type 0
Parens P a ts = (inner : List Token) × P a inner × (ts ≡ Open ∷ inner ++ Close ∷ [])

-- two words, its x and its y
abbrev pub PointText : Point → List Token → Type 0
PointText p ts = (x y : List ℕ) × (ts ≡ Word x ∷ Word y ∷ []) × (number x ≡ Ok p.x)
    × (number y ≡ Ok p.y)

abbrev pub RingText : List Point → List Token → Type 0
RingText ring ts = Parens (Commas PointText) ring ts × IsRing ring

-- a member's rings, its shell first
abbrev pub BodyText : Member → List Token → Type 0
BodyText member ts = Parens (Commas RingText) (member.shell ∷ member.holes) ts

-- keywords are compared in any mix of ASCII cases
abbrev pub is_polygon : List ℕ → Bool
is_polygon w = str_eq_ignore_ascii_case w (codes "POLYGON")

abbrev pub is_multi : List ℕ → Bool
is_multi w = str_eq_ignore_ascii_case w (codes "MULTIPOLYGON")

abbrev pub OneBody : List Member → List Token → Type 0
OneBody members ts = (member : Member) × (members ≡ member ∷ []) × BodyText member ts

-- these tokens are a text of the grammar, with its end, and spell these members
abbrev pub Reads : List Token → List Member → Type 0
Reads ts members = (keyword : List ℕ) × (body : List Token) × (ts ≡ Word keyword ∷ body ++ End ∷ [])
    × (((is_polygon keyword ≡ true) × OneBody members body)
    ⊎ ((is_multi keyword ≡ true) × Parens (Commas BodyText) members body))

-- the tokens spell these members, which do not have too many points
abbrev pub Accepts : List Token → List Member → Type 0
Accepts ts members = Reads ts members × (points_of members ≤ most_points)
