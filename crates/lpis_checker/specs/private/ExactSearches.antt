-- What searches over exact blocks answer.
use Rattle.std.specs.Prelude.{◌≡◌, ◌<◌, ℕ, Option, MatchOption, List}
use Rattle.lpis_cert.specs.declared.part.ExactBlock.{ExactBlock}
use Rattle.lpis_checker.specs.ExactBlocks.{BlockHolds, IsExactFault, exact_id, order_of}
use Rattle.lpis_checker.specs.declared.exact.ExactFault.{ExactFault}
use Rattle.lpis_checker.specs.declared.exact.ExactFault.TheVariants.{Memory, At}
use Rattle.lpis_checker.specs.declared.exact.ExactPart.{ExactPart}
use Rattle.lpis_checker.specs.declared.exact.ExactCondition.{ExactCondition}
use Rattle.lpis_checker.specs.declared.exact.FailingBlock.{FailingBlock}

-- the conditions that come before the n-th hold
pub record ExactBelow (bs : List ExactBlock) (xs : List ExactPart) (n : ℕ) : Type 0 where
  pub holds : (s : ExactCondition) (m : ℕ) → order_of s < n → BlockHolds bs xs s m

-- the fault of the lowest code that comes before the n-th, or none where these hold
abbrev pub FindsExact : List ExactBlock → List ExactPart → ℕ → Option FailingBlock → Type 0
FindsExact bs xs n o =
    MatchOption o (ExactBelow bs xs n) (λ f. IsExactFault bs xs f.condition f.index)

-- what is reported of it
abbrev pub IsFaultOfBlock : List ExactBlock → List ExactPart → FailingBlock → ExactFault → Type 0
IsFaultOfBlock bs xs f Memory = ⊥
IsFaultOfBlock bs xs f (At code id) = (code ≡ f.condition) × (id ≡ exact_id bs xs f.index)
