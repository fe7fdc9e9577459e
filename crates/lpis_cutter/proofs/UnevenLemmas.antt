-- Tests of polygons in a list.
use Rattle.std.proofs.Common.{◌≡◌, Bool, IsTrue, ◌↔◌, Result, IfOk, subst}

-- a test of two things is one of what equals the first
pub told_of : {A E : Type 0} (P : A → Type 0) (x y : A) (result : Result Bool E) → x ≡ y → IfOk result (λ b. IsTrue b ↔ P x) → IfOk result (λ b. IsTrue b ↔ P y)
told_of P x y result e told = subst (λ z. IfOk result (λ b. IsTrue b ↔ P z)) e told
