use Rattle.std.proofs.Common.{arith, to_z-of_z, SFits, w64, ◌∙◌}
use Rattle.lpis_points.proofs.Common.{w128, ints, orient_at}
use Rattle.lpis_points.proofs.side.orient_at.Goals as goal

pub step-requires-2-clause-to_in : goal.step-requires-2-clause-to_in
step-requires-2-clause-to_in c = omega (arith, ints, c.args.b.y_in_range.0, c.args.b.y_in_range.1)

pub offset-requires-2-clause-from_in : goal.offset-requires-2-clause-from_in
offset-requires-2-clause-from_in c = omega (arith, ints, c.args.a.x_in_range.0, c.args.a.x_in_range.1)

pub offset-requires-2-clause-to_in : goal.offset-requires-2-clause-to_in
offset-requires-2-clause-to_in c = omega (arith, ints, c.args.p.now.x_in_range.0, c.args.p.now.x_in_range.1, c.args.p.now.d_in_range.0, c.args.p.now.d_in_range.1)

pub offset-requires-2-clause-d_in : goal.offset-requires-2-clause-d_in
offset-requires-2-clause-d_in c = omega (arith, ints, c.args.p.now.d_in_range.0, c.args.p.now.d_in_range.1)

pub returns : goal.returns
unfolding orient_at
returns c =
    let ax : SFits w64 c.args.a.x = omega (arith, ints, c.args.a.x_in_range.0, c.args.a.x_in_range.1) in
    let ay : SFits w64 c.args.a.y = omega (arith, ints, c.args.a.y_in_range.0, c.args.a.y_in_range.1) in
    let bx : SFits w64 c.args.b.x = omega (arith, ints, c.args.b.x_in_range.0, c.args.b.x_in_range.1) in
    let by_ : SFits w64 c.args.b.y = omega (arith, ints, c.args.b.y_in_range.0, c.args.b.y_in_range.1) in
    let px : SFits w64 c.args.p.now.x = omega (arith, ints, c.args.p.now.x_in_range.0, c.args.p.now.x_in_range.1, c.args.p.now.d_in_range.0, c.args.p.now.d_in_range.1) in
    let py : SFits w64 c.args.p.now.y = omega (arith, ints, c.args.p.now.y_in_range.0, c.args.p.now.y_in_range.1, c.args.p.now.d_in_range.0, c.args.p.now.d_in_range.1) in
    let pd : SFits w64 c.args.p.now.d = omega (arith, ints, c.args.p.now.d_in_range.0, c.args.p.now.d_in_range.1) in
    let f₁ : SFits w64 c.step.result = omega (arith, ints, c.step.ensures.small) in
    let f₂ : SFits w64 c.offset.result = omega (arith, ints, c.offset.ensures.small) in
    let f₃ : SFits w64 c.step-2.result = omega (arith, ints, c.step-2.ensures.small) in
    let f₄ : SFits w64 c.offset-2.result = omega (arith, ints, c.offset-2.ensures.small) in
    let f₅ : SFits w128 c.turn.result = omega (arith, ints, c.turn.type_inv) in
    let e₁ = simp to_z-of_z at c.step.ensures.value in
    let e₂ = simp to_z-of_z at c.offset.ensures.value in
    let e₃ = simp to_z-of_z at c.step-2.ensures.value in
    let e₄ = simp to_z-of_z at c.offset-2.ensures.value in
    let e₅ = simp to_z-of_z at c.turn.ensures in
    to_z-of_z f₅ ∙ e₅ ∙ cc
