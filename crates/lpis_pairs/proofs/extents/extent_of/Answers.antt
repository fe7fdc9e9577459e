use Rattle.std.proofs.Common.{◌≡◌, ℤ, to_z, of_z, to_z-of_z, SFits, w64, sym, subst, ap, ◌∙◌, arith}
use Rattle.std.proofs.lemmas.Int.{ints}
use Rattle.lpis_points.specs.Range.{IsInRange}
use Rattle.lpis_points.specs.declared.boxes.Box4.{Box4}
use Rattle.lpis_pairs.proofs.ExtentLemmas.{least_in_range, greatest_in_range}
use Rattle.lpis_pairs.proofs.extents.extent_of.Goals as goal

-- a number in range that a call answered, as the code hands it on
handed : (z r : ℤ) → IsInRange z → r ≡ z → IsInRange (to_z w64 (of_z w64 r))
handed z r h e =
    let f : SFits w64 z = omega (arith, ints, h.0, h.1) in
    subst IsInRange (sym (ap (λ v. to_z w64 (of_z w64 v)) e ∙ to_z-of_z f)) h

pub rounded_down-requires-2 : goal.rounded_down-requires-2
rounded_down-requires-2 c =
    let t = c.args.triangle.now in
    handed _ _ (least_in_range t.a.y t.b.y t.c.y t.a.y_in_range t.b.y_in_range t.c.y_in_range) (ap (λ (b : Box4). b.y0) c.box_of-corners.ensures)

pub rounded_up-requires : goal.rounded_up-requires
rounded_up-requires c =
    let t = c.args.triangle.now in
    handed _ _ (greatest_in_range t.a.x t.b.x t.c.x t.a.x_in_range t.b.x_in_range t.c.x_in_range) (ap (λ (b : Box4). b.x1) c.box_of-corners.ensures)

pub rounded_up-requires-2 : goal.rounded_up-requires-2
rounded_up-requires-2 c =
    let t = c.args.triangle.now in
    handed _ _ (greatest_in_range t.a.y t.b.y t.c.y t.a.y_in_range t.b.y_in_range t.c.y_in_range) (ap (λ (b : Box4). b.y1) c.box_of-corners.ensures)
