-- Laws of triangles, as statements. They hold at every rational point off the lines that they name.
use Rattle.std.specs.Prelude.{◌≡◌, pos, ◌+ℤ◌, ◌<ℤ◌, IsTrue}
use Rattle.lpis_points.specs.declared.point.Point.{Point}
use Rattle.lpis_points.specs.declared.triangle.Triangle.{Triangle}
use Rattle.lpis_points.specs.Plane.{RationalPoint, orient, shoelace_term}
use Rattle.lpis_points.specs.Triangles.{IsCounterClockwise, is_inside, IsOffItsLines, turns_round}
use Rattle.lpis_points.specs.Triangles.{Separates, are_apart}

-- a counter-clockwise triangle turns once round a point inside it
abbrev pub TurnsOnceInside : Type 0
TurnsOnceInside =
    (t : Triangle) (p : RationalPoint) → pos 0 <ℤ p.d → IsCounterClockwise t
    → IsTrue (is_inside t p) → turns_round t p ≡ pos 1

-- and never round another point off its lines
abbrev pub NeverTurnsOutside : Type 0
NeverTurnsOutside =
    (t : Triangle) (p : RationalPoint) → pos 0 <ℤ p.d → IsCounterClockwise t → IsOffItsLines t p
    → (IsTrue (is_inside t p) → ⊥) → turns_round t p ≡ pos 0

-- a flat turns round no point off its line
abbrev pub FlatsNeverTurn : Type 0
FlatsNeverTurn =
    (t : Triangle) (p : RationalPoint) → pos 0 <ℤ p.d → orient t.a t.b t.c ≡ pos 0
    → IsOffItsLines t p → turns_round t p ≡ pos 0

-- triangles on two sides of a line through two different points share no inner point
abbrev pub SeparatedShareNothing : Type 0
SeparatedShareNothing =
    (line : Point × Point) (t u : Triangle) (p : RationalPoint) → IsCounterClockwise t
    → IsCounterClockwise u → Separates line t u → IsTrue (is_inside t p)
    → IsTrue (is_inside u p) → ⊥

-- triangles that are apart by their boxes share no inner point
abbrev pub ApartShareNothing : Type 0
ApartShareNothing =
    (t u : Triangle) (p : RationalPoint) → IsCounterClockwise t → IsCounterClockwise u
    → IsTrue (are_apart t u) → IsTrue (is_inside t p) → IsTrue (is_inside u p) → ⊥

-- the shoelace terms of the three edges add up to twice the area
abbrev pub AreaIsOfItsTerms : Type 0
AreaIsOfItsTerms =
    (t : Triangle) → shoelace_term t.a t.b +ℤ shoelace_term t.b t.c +ℤ shoelace_term t.c t.a
    ≡ orient t.a t.b t.c
