use Rattle.std.proofs.Common.{◌≡◌, ◌↔◌, Bool, true, false, not, refl}
use Rattle.lpis_points.proofs.PointLemmas.{same_point-equality}
use Rattle.lpis_points.proofs.triangle.differ.Goals as goal

unequal : (E : Type 0) (r s : Bool) → r ≡ not s → (s ≡ true ↔ E) → (r ≡ true) ↔ (E → ⊥)
unequal E r true e f = (λ h. absurd (clash (h)), λ n. absurd (n (f.0 refl)))
  where
    clash : r ≡ true → ⊥
    clash h = cc
unequal E r false e f = (λ h k. absurd (clash (f.1 k)), λ n. e)
  where
    clash : false ≡ true → ⊥
    clash h = cc

pub returns : goal.returns
returns c = unequal _ _ _ c.ne.ensures (same_point-equality c.args.a c.args.b)
