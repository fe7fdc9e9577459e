use Rattle.std.proofs.Common.{◌≡◌, pos, arith, ap}
use Rattle.std.proofs.lemmas.Int.{ints}
use Rattle.lpis_points.specs.declared.point.Point.{Point}
use Rattle.lpis_points.specs.Plane.{orient}
use Rattle.lpis_examples.proofs.triangles.two_triangles_apart_by_an_edge.Goals as goal

four : pos 4 ≡ pos 0 → ⊥
four e = omega (arith, ints, e)

pub returns-clause-edge : goal.returns-clause-edge
unfolding orient
returns-clause-edge c = record {
  differ = λ e. four (ap (λ (p : Point). p.x) e);
  left_of = (omega (arith, ints), omega (arith, ints), omega (arith, ints));
  right_of = (omega (arith, ints), omega (arith, ints), omega (arith, ints));
}
