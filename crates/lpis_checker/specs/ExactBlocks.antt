-- When exact blocks show that parts make up their wholes: four conditions, each met or not at a
-- block.
use Rattle.std.specs.Prelude.{◌≡◌, ◌<◌, ℕ, Bool, List, All, codes, slice_get, Option, Some, None}
use Rattle.std.specs.Option.{option_map}
use Rattle.lpis_memory.specs.Memory.{UnlessMemory}
use Rattle.lpis_points.specs.Triangles.{IsFlat}
use Rattle.lpis_edge_sums.specs.Making.{EdgesCancel, FlatsHaveCorners}
use Rattle.lpis_cert.specs.declared.part.ExactBlock.{ExactBlock}
use Rattle.lpis_checker.specs.FirstFault.{id_or}
use Rattle.lpis_checker.specs.GoodCertificate.{SideBySide}
use Rattle.lpis_checker.specs.declared.exact.ExactPart.{ExactPart}
use Rattle.lpis_checker.specs.declared.exact.ExactCondition.{ExactCondition}
use Rattle.lpis_checker.specs.declared.exact.ExactCondition.TheVariants as condition
use Rattle.lpis_checker.specs.declared.exact.ExactFault.{ExactFault}
use Rattle.lpis_checker.specs.declared.exact.ExactFault.TheVariants.{Memory, At}

-- ---- the conditions
-- the order in which they are reported
abbrev pub order_of : ExactCondition → ℕ
order_of condition.Names = 0
order_of condition.Flats = 1
order_of condition.Corners = 2
order_of condition.Edges = 3

abbrev pub exact_code_text : ExactCondition → List ℕ
exact_code_text condition.Names = codes "6a"
exact_code_text condition.Flats = codes "6b"
exact_code_text condition.Corners = codes "6c"
exact_code_text condition.Edges = codes "6d"

abbrev pub block_name : ExactBlock → Bool × List ℕ
block_name b = (b.merge, b.id)

abbrev pub part_name : ExactPart → Bool × List ℕ
part_name x = (x.merge, x.id)

-- what a condition says of a wanted part and its block
abbrev pub OnBlock : ExactCondition → ExactPart → ExactBlock → Type 0
OnBlock condition.Names x b = block_name b ≡ part_name x
OnBlock condition.Flats x b = All IsFlat b.flats
OnBlock condition.Corners x b = FlatsHaveCorners x.whole x.parts b.flats
OnBlock condition.Edges x b = EdgesCancel x.whole x.parts b.flats

-- at an index of the two lists
abbrev pub BlockHolds : List ExactBlock → List ExactPart → ExactCondition → ℕ → Type 0
BlockHolds bs xs q k = SideBySide (OnBlock q) (slice_get xs k) (slice_get bs k)

-- the blocks show that each whole is made up
pub record ShowExact (bs : List ExactBlock) (xs : List ExactPart) : Type 0 where
  pub holds : (q : ExactCondition) (k : ℕ) → BlockHolds bs xs q k

-- ---- the fault
-- the condition of the lowest code that fails, and the first index at which it does
pub record IsExactFault (bs : List ExactBlock) (xs : List ExactPart) (q : ExactCondition) (k : ℕ) :
    Type 0 where
  pub lower : (s : ExactCondition) (m : ℕ) → order_of s < order_of q → BlockHolds bs xs s m
  pub fails : BlockHolds bs xs q k → ⊥
  pub earlier : (m : ℕ) → m < k → BlockHolds bs xs q m

-- the identifier of the block, or the wanted one where the blocks have ended
abbrev pub exact_id : List ExactBlock → List ExactPart → ℕ → List ℕ
exact_id bs xs k = id_or (option_map (λ (b : ExactBlock). b.id) (slice_get bs k))
    (option_map (λ (x : ExactPart). x.id) (slice_get xs k))

abbrev pub exact_report : ExactFault → Option (ExactCondition × List ℕ)
exact_report Memory = None
exact_report (At code id) = Some (code, id)

-- a fault that is reported is that one; out of memory may stand in its place
abbrev pub ReportsExact : List ExactBlock → List ExactPart → ExactFault → Type 0
ReportsExact bs xs fault =
    UnlessMemory (λ (t : ExactCondition × List ℕ). (k : ℕ) × IsExactFault bs xs t.0 k
    × (t.1 ≡ exact_id bs xs k)) (exact_report fault)
