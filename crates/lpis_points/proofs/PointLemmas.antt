-- Equal points.
use Rattle.std.proofs.Common.{◌≡◌, ℤ, true, ap, ◌∙◌, subst, arith, int_eq}
use Rattle.lpis_points.proofs.Common.{ints, Point, same_point}
use Rattle.std.proofs.lemmas.Bool.{and_from, and_parts}
use lib.Dec.{T_prop}
use Rattle.lpis_points.specs.Range.{IsInRange}
use Rattle.lpis_points.specs.Chain.{IsEquality}

in_range-prop : (z : ℤ) → IsProp (IsInRange z)
in_range-prop z = hlevel T_prop

abbrev make : (x y : ℤ) → IsInRange x → IsInRange y → Point
make x y h k = record { x = x; y = y; x_in_range = h; y_in_range = k }

one_point : (x y : ℤ) (h h' : IsInRange x) (k k' : IsInRange y) → make x y h k ≡ make x y h' k'
one_point x y h h' k k' =
    ap (λ (v : IsInRange x). make x y v k) (in_range-prop x h h') ∙ ap (λ (v : IsInRange y). make x y h' v) (in_range-prop y k k')

same_coordinates : (x y x' y' : ℤ) → x ≡ x' → y ≡ y' → (h : IsInRange x) (h' : IsInRange x') (k : IsInRange y) (k' : IsInRange y') → make x y h k ≡ make x' y' h' k'
same_coordinates x y x' y' e f =
    subst (λ (v : ℤ). (h : IsInRange x) (h' : IsInRange v) (k : IsInRange y) (k' : IsInRange y') → make x y h k ≡ make v y' h' k') e
    (subst (λ (w : ℤ). (h : IsInRange x) (h' : IsInRange x) (k : IsInRange y) (k' : IsInRange w) → make x y h k ≡ make x w h' k') f (λ h h' k k'. one_point x y h h' k k'))

-- points with the same coordinates are equal
pub point_eq : (a b : Point) → a.x ≡ b.x → a.y ≡ b.y → a ≡ b
point_eq a b e f = same_coordinates a.x a.y b.x b.y e f a.x_in_range b.x_in_range a.y_in_range b.y_in_range

int_eq_yes : (x y : ℤ) → int_eq x y ≡ true → x ≡ y
int_eq_yes x y e = grind (arith, ints)

int_eq_same : (x : ℤ) → int_eq x x ≡ true
int_eq_same x = grind (arith, ints)

-- `same_point` tells equal points
pub same_point-equality : IsEquality same_point
same_point-equality a b = (
  λ e. let r = and_parts (int_eq a.x b.x) (int_eq a.y b.y) e in point_eq a b (int_eq_yes a.x b.x r.0) (int_eq_yes a.y b.y r.1),
  λ e. subst (λ (v : Point). same_point a v ≡ true) e (and_from (int_eq a.x a.x) (int_eq a.y a.y) (int_eq_same a.x) (int_eq_same a.y)),
)
