use Rattle.std.proofs.Common.{inl, inr, refl}
use Rattle.lpis_places.proofs.locating.meet.Goals as goal

pub returns-then-not-is_met-clause-all : goal.returns-then-not-is_met-clause-all
returns-then-not-is_met-clause-all c = λ ps k is boxed. inr (c.is_met.ensures ps k is boxed c.if-not-is_met.true)

pub returns-then-not-is_met-clause-only : goal.returns-then-not-is_met-clause-only
returns-then-not-is_met-clause-only c = inl refl
