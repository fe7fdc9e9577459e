use Rattle.std.proofs.Common.{◌≡◌, ◌∙◌, Bool, true, false, List, sym, subst}
use Rattle.lpis_cutter.proofs.Common.{edges_of}
use Rattle.lpis_points.specs.declared.point.Point.{Point}
use Rattle.lpis_cutter.specs.Fans.{SeesAll}
use Rattle.lpis_cutter.proofs.fans.edges_of_fan.Goals as goal

clash : (b : Bool) → b ≡ true → b ≡ false → ⊥
clash b e f = cc

pub returns-then-not-sees_all : goal.returns-then-not-sees_all
returns-then-not-sees_all c = λ fan.
    let same : c.deref.result.now ≡ edges_of c.args.polygon.now = c.deref.ensures.value ∙ c.in_ok-list.ensures in
    clash c.sees_all.result (c.sees_all.ensures.1 (subst (λ (es : List (Point × Point)). SeesAll es) (sym same) fan.sees)) c.if-not-sees_all.true
