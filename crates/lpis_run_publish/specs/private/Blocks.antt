-- Why a certificate does not get blocks.
use Rattle.std.specs.Prelude.{◌≡◌, [], true, List, map}
use Rattle.lpis_tables.specs.Ids.{has_id, same_id}
use Rattle.lpis_checker.specs.declared.exact.ExactPart.{ExactPart}
use Rattle.lpis_run_publish.specs.ExactAnswer.{AreFlatsOf, IsFirstUnfilled}
use Rattle.lpis_run_publish.specs.declared.blocks.BlockFault.{BlockFault}
use Rattle.lpis_run_publish.specs.declared.blocks.BlockFault.TheVariants.{Memory, NoFlats}

-- memory ran out, or the part is named, and is not made up without flats
abbrev pub IsUnfilled : ExactPart → BlockFault → Type 0
IsUnfilled x Memory = Unit {0}
IsUnfilled x (NoFlats id) = (same_id id x.id ≡ true) × (AreFlatsOf x [] → ⊥)

-- memory ran out, or the first of these parts is named that gets no block
abbrev pub IsOf : List ExactPart → BlockFault → Type 0
IsOf xs Memory = Unit {0}
IsOf xs (NoFlats id) = (has_id (map (λ (x : ExactPart). x.id) xs) id ≡ true) × IsFirstUnfilled xs id
