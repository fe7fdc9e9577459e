-- What no call leaves.
use Rattle.std.proofs.Common.{arith, inl, refl}
use Rattle.lpis_register.proofs.Common.{State, Survives, Trees}

-- where nothing was done, a crash leaves what it left before
pub nothing_done : (P : Trees → Type 0) (a : State) → Survives a a P
nothing_done P a = record { clean = omega arith; shield = λ s. s; counts = omega arith; limit = refl; closes = λ _ up. inl up; crash = λ _ db may. inl may }
