-- A plan that is being read.
use Rattle.std.specs.Prelude.{◌≡◌, ℕ, ◌+◌, ◌≤◌, List, [], ◌∷◌, ◌++◌, length, Some}
use Rattle.lpis_country.specs.declared.draft.Draft.{Draft}
use Rattle.lpis_country.specs.declared.fault.PlanFault.{PlanFault}
use Rattle.lpis_country.specs.declared.fault.PlanFault.TheVariants.{Memory, At}
use Rattle.lpis_country.specs.Tree.{Tree}
use Rattle.lpis_country.specs.CountryText.{TreeLine, tree_line_text, tree_lines}
use Rattle.lpis_country.specs.CountryText.{tree_lines_text}
use Rattle.lpis_country.specs.Faults.{Owing, owing_first, plan_fault_from, plan_lines}
use Rattle.lpis_country.specs.Plans.{PlanParts, IsPlanOf}
use Rattle.lpis_country.specs.private.Begun.{IsPlanBegun, owes}

-- these lines were read
abbrev pub IsDraftOf : List TreeLine → Draft → Type 0
IsDraftOf said d = IsPlanBegun said d.names d.tiles.items d.rooms

-- what it owes
abbrev pub owing_of : Draft → Owing
owing_of d = owes (length d.rooms) d.names

-- a line more was read
abbrev pub IsDraftWith : Draft → List ℕ → Draft → Type 0
IsDraftWith old line new = (said : List TreeLine) → IsDraftOf said old
    → (l : TreeLine) × (line ≡ tree_line_text l) × IsDraftOf (said ++ l ∷ []) new

-- ---- the text that is left

-- the first line of a text, and what comes after its line feed
pub record TakesPlanLine (text line rest : List ℕ) : Type 0 where
  pub parts : text ≡ line ++ (10 ∷ rest)
  pub split : plan_lines text ≡ line ∷ plan_lines rest

-- a draft of lines of this text, of which the rest begins with line n
pub record IsReading (start rest : List ℕ) (n : ℕ) (d : Draft) : Type 0 where
  pub said : List TreeLine
  pub begun : IsDraftOf said d
  pub parts : start ≡ tree_lines_text said ++ rest
  pub faults : plan_fault_from 2 owing_first (plan_lines start)
      ≡ plan_fault_from n (owing_of d) (plan_lines rest)
  pub room : n + length rest ≤ length start + 2

-- a draft that owes nothing, and a text of which nothing is left
pub record IsEnded (d : Draft) (rest : List ℕ) (p : PlanParts) : Type 0 where
  pub names : p.names ≡ d.names
  pub tiles : p.tiles ≡ d.tiles.items
  pub rooms : d.rooms ≡ []
  pub none : rest ≡ []

-- the first fault from line n on
abbrev pub PlanFaultFrom : PlanFault → ℕ → Owing → List ℕ → Type 0
PlanFaultFrom Memory n o text = Unit {0}
PlanFaultFrom (At line) n o text = plan_fault_from n o (plan_lines text) ≡ Some line

-- the plan of a tree with these lines
abbrev pub IsPlanOfLines : List ℕ → PlanParts → Type 0
IsPlanOfLines text p = (t : Tree) × IsPlanOf t p × (text ≡ tree_lines_text (tree_lines t))
