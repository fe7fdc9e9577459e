use Rattle.std.proofs.Common.{arith, to_z-of_z, SFits, w64, w8, ◌∙◌}
use Rattle.lpis_points.proofs.Common.{w128, ints, crossing}
use Rattle.lpis_points.proofs.side.crossing.Goals as goal

pub returns : goal.returns
unfolding crossing
returns c =
    let ay : SFits w64 c.args.a.y = omega (arith, ints, c.args.a.y_in_range.0, c.args.a.y_in_range.1) in
    let by_ : SFits w64 c.args.b.y = omega (arith, ints, c.args.b.y_in_range.0, c.args.b.y_in_range.1) in
    let py : SFits w64 c.args.p.now.y = omega (arith, ints, c.args.p.now.y_in_range.0, c.args.p.now.y_in_range.1, c.args.p.now.d_in_range.0, c.args.p.now.d_in_range.1) in
    let pd : SFits w64 c.args.p.now.d = omega (arith, ints, c.args.p.now.d_in_range.0, c.args.p.now.d_in_range.1) in
    let f₁ : SFits w64 c.height.result = omega (arith, ints, c.height.ensures.small) in
    let f₂ : SFits w64 c.height-2.result = omega (arith, ints, c.height-2.ensures.small) in
    let f₃ : SFits w128 c.orient_at-side.result = omega (arith, ints, c.orient_at-side.type_inv) in
    let f₄ : SFits w8 c.passing.result = omega (arith, ints, c.passing.type_inv) in
    let e₁ = simp to_z-of_z at c.height.ensures.value in
    let e₂ = simp to_z-of_z at c.height-2.ensures.value in
    let e₃ = c.orient_at-side.ensures in
    let e₄ = simp to_z-of_z at c.passing.ensures in
    to_z-of_z f₄ ∙ e₄ ∙ cc
