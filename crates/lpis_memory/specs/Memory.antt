-- What a call answers that may run out of memory.
use Rattle.std.specs.Prelude.{◌≡◌, Option, Some, None, Result, Ok, Err}

-- what holds of a fault's report: nothing is said where there is none, since memory ran out
abbrev pub UnlessMemory : {R : Type 0} → (R → Type 0) → Option R → Type 0
UnlessMemory Holds None = Unit {0}
UnlessMemory Holds (Some report) = Holds report

-- a call answers a value that is right, or a fault whose report is, unless memory ran out
abbrev pub AnswersUnless : {A F R : Type 0} → (F → Option R) → (A → Type 0) → (R → Type 0)
    → Result A F → Type 0
AnswersUnless report Right Holds (Ok x) = Right x
AnswersUnless report Right Holds (Err fault) = UnlessMemory Holds (report fault)

-- a call answers what is said, unless memory ran out
abbrev pub AnswersSame : {A F R : Type 0} → (F → Option R) → Result A R → Result A F → Type 0
AnswersSame {A} {F} {R} report said answer =
    AnswersUnless report (λ (x : A). said ≡ Ok x) (λ (r : R). said ≡ Err r) answer
