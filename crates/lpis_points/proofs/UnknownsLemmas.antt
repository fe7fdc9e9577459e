-- The names of the unknowns of an equation of plane geometry: a triangle a b c, a line u v, a point p and a number n.
use Rattle.std.proofs.Common.{ℤ, List, [], ◌∷◌}
use Rattle.lpis_points.proofs.Common.{Point, RationalPoint}
use Rattle.lpis_points.proofs.IntRingLemmas.{Expr, var, ◌⊖◌, ◌⊗◌}

-- the x of the corner a
abbrev pub ax : Expr
ax = var 0

-- the y of the corner a
abbrev pub ay : Expr
ay = var 1

-- the x of the corner b
abbrev pub bx : Expr
bx = var 2

-- the y of the corner b
abbrev pub by_ : Expr
by_ = var 3

-- the x of the corner c
abbrev pub cx : Expr
cx = var 4

-- the y of the corner c
abbrev pub cy : Expr
cy = var 5

-- the x of the line's point u
abbrev pub ux : Expr
ux = var 6

-- the y of the line's point u
abbrev pub uy : Expr
uy = var 7

-- the x of the line's point v
abbrev pub vx : Expr
vx = var 8

-- the y of the line's point v
abbrev pub vy : Expr
vy = var 9

-- the x of the point p, in parts of d
abbrev pub px : Expr
px = var 10

-- the y of the point p, in parts of d
abbrev pub py : Expr
py = var 11

-- the denominator of the point p
abbrev pub d : Expr
d = var 12

-- the number n
abbrev pub n : Expr
n = var 13

-- the values of all these unknowns, in the order of their numbers
abbrev pub unknowns_of : Point → Point → Point → RationalPoint → Point → Point → ℤ → List ℤ
unknowns_of a b c p u v m = a.x ∷ a.y ∷ b.x ∷ b.y ∷ c.x ∷ c.y ∷ u.x ∷ u.y ∷ v.x ∷ v.y ∷ p.x ∷ p.y ∷ p.d ∷ m ∷ []

-- the side of p to an edge, and of a point to it
abbrev pub side : Expr → Expr → Expr → Expr → Expr
side sx sy tx ty = (tx ⊖ sx) ⊗ (py ⊖ sy ⊗ d) ⊖ (ty ⊖ sy) ⊗ (px ⊖ sx ⊗ d)

-- the side of a point w to the edge from s to t
abbrev pub turn : Expr → Expr → Expr → Expr → Expr → Expr → Expr
turn sx sy tx ty wx wy = (tx ⊖ sx) ⊗ (wy ⊖ sy) ⊖ (ty ⊖ sy) ⊗ (wx ⊖ sx)
