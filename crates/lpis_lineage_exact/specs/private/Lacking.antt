-- The first identifier whose shape is not kept.
use Rattle.std.specs.Prelude.{◌≡◌, ◌∷◌, ℕ, List}
use Rattle.lpis_register_rows.specs.Shapes.{Shape}
use Rattle.lpis_lineage_exact.specs.Asking.{lacking}
use Rattle.lpis_lineage_exact.specs.declared.asking.AskFault.{AskFault}
use Rattle.lpis_lineage_exact.specs.declared.asking.AskFault.TheVariants.{Memory, NotKept}

-- a fault names the first of these identifiers whose shape is not kept
abbrev pub IsFirstLacking : List Shape → List (List ℕ) → AskFault → Type 0
IsFirstLacking kept ids Memory = Unit {0}
IsFirstLacking kept ids (NotKept id) = (rest : List (List ℕ)) × (lacking kept ids ≡ id ∷ rest)
