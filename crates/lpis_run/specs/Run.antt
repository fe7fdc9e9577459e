-- How a run ends: each command has this form, and says which failures stop it before it writes, and
-- which answers it has to what was read.
use Rattle.std.specs.Prelude.{◌≡◌, ◌⊎◌, ℕ, List, IfErr, IfOk, Result}
use Rattle.std.specs.Io.KnownBytes.{Appends, Keeps}
use Rattle.lpis_run.specs.CheckAnswer.{Answer}
use Rattle.lpis_run.specs.Outputs.{BreaksOff, Held, Outputs, Writes}
use Rattle.lpis_run.specs.Streams.{Begins, Known}
use Rattle.lpis_run.specs.declared.failure.Failure.{Failure}
use Rattle.lpis_run.specs.declared.failure.Failure.TheVariants.{Write}
use Rattle.lpis_run.specs.declared.failure.Name.TheVariants.{Out}

-- of what readers reported: there are inputs that are that, in this sense, and this holds of them
abbrev pub OfRead : {X G : Type 0} → (X → G → Type 0) → G → (X → Type 0) → Type 0
OfRead {X} AreRead given Holds = (x : X) × AreRead x given × Holds x

-- a run that prints, over what its output held before and holds after
pub record Runs (Stops : Failure → Type 0) (Answers : Answer → Type 0)
    (old new : Known) (result : Result ℕ Failure) : Type 0 where
  -- it ended with the status of an answer, and wrote its text
  pub answer : IfOk result (λ status. (text : List ℕ) × Answers (text, status)
      × Appends old new text)
  -- it was stopped, and wrote nothing; or the output failed after a beginning of an answer
  pub failure : IfErr result (λ failure. (Stops failure × Keeps old new)
      ⊎ ((failure ≡ Write Out) × (a : Answer) × Answers a × Begins old new a.0))

-- a run that writes a certificate, if there is one, and then prints, over what its two outputs hold
pub record RunsBoth {E : Type 0} (Stops : Failure → Type 0) (Answers : Outputs → Type 0)
    (old new : Held E) (result : Result ℕ Failure) : Type 0 where
  -- it ended with the status of an answer, and wrote both
  pub answer : IfOk result (λ status. (a : Outputs) × Answers a × Writes a status old new)
  -- it was stopped, and wrote nothing; or an output failed after a beginning of an answer
  pub failure : IfErr result (λ failure. (Stops failure × (new.cert ≡ old.cert)
      × Keeps old.out new.out) ⊎ ((a : Outputs) × Answers a × BreaksOff a failure old new))

-- how a run that writes lines as it goes on breaks off: it was stopped behind lines, which were
-- written; or the output failed after a beginning of an answer, or of lines behind which it may be
-- stopped
abbrev pub BreaksOffIn : (List ℕ → Failure → Type 0) → (Answer → Type 0) → Known → Known
    → Failure → Type 0
BreaksOffIn StopsBehind Answers old new failure =
    ((lines : List ℕ) × StopsBehind lines failure × Appends old new lines)
    ⊎ ((failure ≡ Write Out) × ((text : List ℕ) × (((other : Failure) × StopsBehind text other)
    ⊎ ((status : ℕ) × Answers (text, status))) × Begins old new text))

-- a run that writes lines as it goes on, and the rest of its answer at its end
pub record RunsOn (Stops : Failure → Type 0) (StopsBehind : List ℕ → Failure → Type 0)
    (Answers : Answer → Type 0) (old new : Known) (result : Result ℕ Failure)
    : Type 0 where
  -- it ended with the status of an answer, and wrote its text
  pub answer : IfOk result (λ status. (text : List ℕ) × Answers (text, status)
      × Appends old new text)
  -- it was stopped, and wrote nothing; or it broke off
  pub failure : IfErr result (λ failure. (Stops failure × Keeps old new)
      ⊎ BreaksOffIn StopsBehind Answers old new failure)

-- a run that writes lines as it goes on, and at its end a certificate, if there is one, and the
-- rest of its answer, over what its two outputs hold
pub record RunsOnBoth {E : Type 0} (Stops : Failure → Type 0)
    (StopsBehind : List ℕ → Failure → Type 0) (Answers : List ℕ → Outputs → Type 0)
    (old new : Held E) (result : Result ℕ Failure) : Type 0 where
  -- it ended with the status of an answer: it wrote the lines, and then the rest
  pub answer : IfOk result (λ s. (lines : List ℕ) × (end : Outputs) × Answers lines end
      × (mid : Known) × Appends old.out mid lines × Writes end s (record old { out = mid }) new)
  -- it was stopped, and wrote nothing; or it broke off in its lines, with no certificate yet; or it
  -- wrote the lines of an answer, and an output failed after a beginning of the rest
  pub failure : IfErr result (λ f. (Stops f × (new.cert ≡ old.cert) × Keeps old.out new.out)
      ⊎ (BreaksOffIn StopsBehind (λ a. ⊥) old.out new.out f × (new.cert ≡ old.cert))
      ⊎ ((lines : List ℕ) × (end : Outputs) × Answers lines end × (mid : Known)
      × Appends old.out mid lines × BreaksOff end f (record old { out = mid }) new))
