-- The text of a polygon.
use Rattle.std.specs.Prelude.{◌/◌, ◌^◌, ◌++◌, ◌∷◌, ℕ, ℤ, nat_abs}
use Rattle.std.specs.Prelude.{List, [], codes}
use Rattle.std.specs.List.{All, flat_map}
use Rattle.std.specs.Fmt.{decimal}
use Rattle.lpis_points.specs.declared.point.Point.{Point}
use Rattle.lpis_rings.specs.declared.polygon.Member.{Member}
use Rattle.lpis_rings.specs.Ring.{IsRing}
use Rattle.lpis_wkt.specs.Number.{coordinate_decimals}
use Rattle.lpis_points.specs.Decimals.{last_digits, sign_text}

-- a coordinate, which is a whole number of millimetres, in metres with all three decimals
unfoldable pub number_text : ℤ → List ℕ
number_text z = sign_text z ++ (decimal (nat_abs z / 10 ^ coordinate_decimals) ++ (codes "."
    ++ last_digits coordinate_decimals (nat_abs z)))

abbrev pub polygon_point_text : Point → List ℕ
polygon_point_text p = number_text p.x ++ (codes " " ++ number_text p.y)

-- things with a comma before each
abbrev pub after_commas : {A : Type 0} → (A → List ℕ) → List A → List ℕ
after_commas text things = flat_map (λ a. codes "," ++ text a) things

-- things with a comma between each two
abbrev pub with_commas : {A : Type 0} → (A → List ℕ) → List A → List ℕ
with_commas text [] = []
with_commas text (first ∷ more) = text first ++ after_commas text more

abbrev pub in_parens : List ℕ → List ℕ
in_parens text = codes "(" ++ text ++ codes ")"

abbrev pub ring_text : List Point → List ℕ
ring_text ring = in_parens (with_commas polygon_point_text ring)

-- a member's rings, its shell first
abbrev pub member_text : Member → List ℕ
member_text m = in_parens (with_commas ring_text (m.shell ∷ m.holes))

-- `POLYGON` for one member, else `MULTIPOLYGON`
unfoldable pub polygon_text : List Member → List ℕ
polygon_text (only ∷ []) = codes "POLYGON" ++ member_text only
polygon_text members = codes "MULTIPOLYGON" ++ in_parens (with_commas member_text members)

-- each list of points of a member is a ring
abbrev pub HasRings : Member → Type 0
HasRings m = IsRing m.shell × All IsRing m.holes

-- each list of points of these members is a ring, as it is in every `Polygon`
abbrev pub HaveRings : List Member → Type 0
HaveRings members = All HasRings members
