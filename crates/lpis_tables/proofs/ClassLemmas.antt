-- A class is its code and its percentage.
use Rattle.std.proofs.Common.{◌≡◌, ◌∙◌, ◌≤◌, ap, subst, sym, ℕ, List, Result, Ok}
use Rattle.std.specs.Result.{result_unwrap_or}
use Rattle.lpis_tables.proofs.Common.{Fields, field_of, unless_faulty}
use denote.Struct.Props.{props}
use Rattle.lpis_tables.specs.Classes.{class_of, code_faults, percentage_of}
use Rattle.lpis_tables.specs.Percentages.{most_percent}
use Rattle.lpis_tables.specs.declared.class.Class.{Class}
use Rattle.lpis_tables.specs.declared.fault.TableCode.{TableCode}

abbrev percent_of : Result ℕ TableCode → ℕ
percent_of said = result_unwrap_or said 0

within-prop : (n : ℕ) → IsProp (n ≤ most_percent)
within-prop n = hlevel props

abbrev make : (code : List ℕ) (n : ℕ) → n ≤ most_percent → Class
make code n h = record { code = code; percent = n; within = h }

same-class : (code : List ℕ) (n m : ℕ) → n ≡ m → (h : n ≤ most_percent) (k : m ≤ most_percent) → make code n h ≡ make code m k
same-class code n m e =
    subst (λ (v : ℕ). (h : n ≤ most_percent) (k : v ≤ most_percent) → make code n h ≡ make code v k) e
    (λ h k. ap (λ (w : n ≤ most_percent). make code n w) (within-prop n h k))

-- the class of a row whose percentage is this
pub class-told : (n : ℕ) (row : Fields) (code : List ℕ) (p : ℕ) (h : p ≤ most_percent) → code ≡ field_of row 0 → percentage_of row ≡ Ok p
    → unless_faulty (code_faults n (percentage_of row)) (class_of row) ≡ Ok (make code p h)
class-told n row code p h e said =
    ap (λ (s : Result ℕ TableCode). unless_faulty (code_faults n s) (class_of row)) said
    ∙ ap Ok (ap (λ (k : List ℕ). make k (percent_of (percentage_of row)) (class_of row).within) (sym e)
    ∙ same-class code (percent_of (percentage_of row)) p (ap percent_of said) (class_of row).within h)
