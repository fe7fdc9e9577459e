use Rattle.std.proofs.Common.{arith, to_z-of_z, SFits}
use Rattle.lpis_points.proofs.Common.{w128, ints}
use Rattle.lpis_points.proofs.separating.is_right.Goals as goal

pub returns : goal.returns
returns c =
    let f : SFits w128 c.orient.result = omega (arith, ints, c.orient.type_inv) in
    let g : SFits w128 c.orient-2.result = omega (arith, ints, c.orient-2.type_inv) in
    let h : SFits w128 c.orient-3.result = omega (arith, ints, c.orient-3.type_inv) in
    let e = simp to_z-of_z at c.none_above.ensures in
    simp (c.orient.ensures, c.orient-2.ensures, c.orient-3.ensures) at e
