-- What the two files at the top say.
use Rattle.std.specs.Prelude.{◌≡◌, ℕ, List, Some}
use Rattle.lpis_country.specs.CountryText.{IsCountryText}
use Rattle.lpis_country.specs.Faults.{plan_fault}
use Rattle.lpis_country.specs.Plans.{IsPlanOf, PlanParts}
use Rattle.lpis_country.specs.Tree.{Tree}
use Rattle.lpis_run.specs.CheckAnswer.{Answer, IsTableAnswer}
use Rattle.lpis_run.specs.Status.{unreadable}
use Rattle.lpis_run_country.specs.CountryLines.{plan_refusal_text}
use Rattle.lpis_tables.specs.Classes.{classes_table}
use Rattle.lpis_tables.specs.Faults.{rows_of}

-- the plan is that of the text
abbrev pub IsPlanIn : List ℕ → PlanParts → Type 0
IsPlanIn text p = (t : Tree) × IsCountryText text t × IsPlanOf t p

-- the line of the first fault of the text
abbrev pub IsPlanRefusal : List ℕ → Answer → Type 0
IsPlanRefusal text a = (line : ℕ) × (plan_fault text ≡ Some line)
    × (a ≡ (plan_refusal_text line, unreadable))

-- the line of the first fault of the table
abbrev pub IsClassesRefusal : List ℕ → Answer → Type 0
IsClassesRefusal table = IsTableAnswer (λ classes a. ⊥) (rows_of classes_table table)
