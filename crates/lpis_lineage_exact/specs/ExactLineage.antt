-- What exact splits and merges say of points.
use Rattle.std.specs.Prelude.{◌≡◌, ◌<ℤ◌, ◌↔◌, pos, true, Bool, ℕ, List, Option, Some}
use Rattle.std.specs.List.{list_any}
use Rattle.lpis_points.specs.Plane.{RationalPoint}
use Rattle.lpis_rings.specs.declared.polygon.Member.{Member}
use Rattle.lpis_rings.specs.Edges.{Contains}
use Rattle.lpis_edge_sums.specs.Making.{TurnsAtMostOnce}
use Rattle.lpis_lineage.specs.declared.kind.Kind.{Kind}
use Rattle.lpis_lineage.specs.declared.row.Row.{Row}
use Rattle.lpis_lineage.specs.Descendants.{leads}
use Rattle.lpis_lineage.specs.ExactGroups.{is_exact_merge, is_exact_split, leads_into}

-- ---- points in the shapes of identifiers
-- the point lies in the shape of an identifier, which so has one
pub record LiesIn (shape_of : List ℕ → Option (List Member)) (p : RationalPoint) (id : List ℕ) :
    Type 0 where
  pub shape : List Member
  pub is : shape_of id ≡ Some shape
  pub inside : Contains shape p

-- exactly one identifier that passes the test has the property
pub record ExactlyOneOf (among : List ℕ → Bool) (Has : List ℕ → Type 0) : Type 0 where
  pub one : List ℕ
  pub is_among : among one ≡ true
  pub has : Has one
  pub no_other : (q : List ℕ) → among q ≡ true → Has q → q ≡ one

-- each of these shapes turns once or not at all round each rational point
abbrev pub ShapesTurnOnce : (List ℕ → Option (List Member)) → Type 0
ShapesTurnOnce shape_of = (id : List ℕ) (shape : List Member) → shape_of id ≡ Some shape
    → TurnsAtMostOnce shape

-- no rational point lies in two of them
abbrev pub ShapesShareNothing : (List ℕ → Option (List Member)) → Type 0
ShapesShareNothing shape_of =
    (p : RationalPoint) → pos 0 <ℤ p.d → (a b : List ℕ) → LiesIn shape_of p a → LiesIn shape_of p b
    → a ≡ b

-- ---- exact lineage
-- by the kept shapes and those of a release: each rational point lies in an old parcel of an exact
-- split exactly when it lies in exactly one successor; and where each kept shape turns once or not
-- at all, it lies in the successor of an exact merge exactly when it lies in exactly one
-- predecessor
pub record IsExactLineage (kind_of : List ℕ → Option Kind) (rows : List Row)
    (kept new : List ℕ → Option (List Member)) : Type 0 where
  pub splits : (id : List ℕ) → is_exact_split kind_of rows id ≡ true → (p : RationalPoint)
      → pos 0 <ℤ p.d
      → LiesIn kept p id ↔ ExactlyOneOf (λ s. list_any (leads id s) rows) (LiesIn new p)
  pub merges : ShapesTurnOnce kept → (s : List ℕ) → is_exact_merge kind_of rows s ≡ true
      → (p : RationalPoint) → pos 0 <ℤ p.d
      → LiesIn new p s ↔ ExactlyOneOf (leads_into kind_of rows s) (LiesIn kept p)
