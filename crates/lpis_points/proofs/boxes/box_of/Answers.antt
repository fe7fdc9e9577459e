use Rattle.std.proofs.Common.{◌≡◌, ℤ, arith, to_z, of_z, to_z-of_z, SFits, w64, ◌∙◌}
use Rattle.lpis_points.proofs.Common.{ints}
use Rattle.lpis_points.specs.declared.boxes.Box4.{Box4}
use Rattle.lpis_points.specs.Range.{IsInRange}
use Rattle.lpis_points.specs.Triangles.{greatest, least}
use Rattle.lpis_points.proofs.boxes.box_of.Goals as goal

four : {x0 y0 x1 y1 x0' y0' x1' y1' : ℤ} → x0 ≡ x0' → y0 ≡ y0' → x1 ≡ x1' → y1 ≡ y1'
    → ◌≡◌ {A = Box4} (record { x0 = x0; y0 = y0; x1 = x1; y1 = y1 }) (record { x0 = x0'; y0 = y0'; x1 = x1'; y1 = y1' })
four p q r s = cc

fits : (z : ℤ) → IsInRange z → SFits w64 z
fits z h = omega (arith, ints, h.0, h.1)

-- a number that a helper answered, as the code hands it on
read : (f : ℤ → ℤ → ℤ → ℤ) (a b c r : ℤ) → IsInRange a → IsInRange b → IsInRange c → SFits w64 r
    → r ≡ f (to_z w64 (of_z w64 a)) (to_z w64 (of_z w64 b)) (to_z w64 (of_z w64 c)) → to_z w64 (of_z w64 r) ≡ f a b c
read f a b c r h k l i e =
    let p = to_z-of_z (fits a h) in
    let q = to_z-of_z (fits b k) in
    let s = to_z-of_z (fits c l) in
    to_z-of_z i ∙ e ∙ cc

pub returns : goal.returns
returns c =
    let t = c.args.triangle.now in
    let f : SFits w64 c.least_of.result = omega (arith, ints, c.least_of.type_inv) in
    let g : SFits w64 c.least_of-2.result = omega (arith, ints, c.least_of-2.type_inv) in
    let h : SFits w64 c.greatest_of.result = omega (arith, ints, c.greatest_of.type_inv) in
    let k : SFits w64 c.greatest_of-2.result = omega (arith, ints, c.greatest_of-2.type_inv) in
    four
    (read least t.a.x t.b.x t.c.x _ t.a.x_in_range t.b.x_in_range t.c.x_in_range f c.least_of.ensures)
    (read least t.a.y t.b.y t.c.y _ t.a.y_in_range t.b.y_in_range t.c.y_in_range g c.least_of-2.ensures)
    (read greatest t.a.x t.b.x t.c.x _ t.a.x_in_range t.b.x_in_range t.c.x_in_range h c.greatest_of.ensures)
    (read greatest t.a.y t.b.y t.c.y _ t.a.y_in_range t.b.y_in_range t.c.y_in_range k c.greatest_of-2.ensures)
