-- The codes of conditions.
use Rattle.std.specs.Prelude.{◌+◌, ◌/◌, ◌%◌, ◌∷◌, [], ℕ, List}
use Rattle.lpis_checker.specs.declared.condition.Condition.{Condition}
use Rattle.lpis_checker.specs.declared.condition.Condition.TheVariants.{Names, Triangles}
use Rattle.lpis_checker.specs.declared.condition.Condition.TheVariants.{CounterClockwise, Flats}
use Rattle.lpis_checker.specs.declared.condition.Condition.TheVariants.{Corners, PieceEdges}
use Rattle.lpis_checker.specs.declared.condition.Condition.TheVariants.{ParcelEdges, NearPairs}
use Rattle.lpis_checker.specs.declared.condition.Condition.TheVariants.{NotApart, Separating}

-- the number that is reported where a condition fails; the lowest is reported
abbrev pub code_of : Condition → ℕ
code_of Names = 60
code_of Triangles = 61
code_of CounterClockwise = 62
code_of Flats = 63
code_of Corners = 64
code_of PieceEdges = 65
code_of ParcelEdges = 66
code_of NearPairs = 67
code_of NotApart = 68
code_of Separating = 69

-- the two digits of a code
unfoldable pub check_code_text : Condition → List ℕ
check_code_text q = (48 + code_of q / 10) ∷ ((48 + code_of q % 10) ∷ [])
