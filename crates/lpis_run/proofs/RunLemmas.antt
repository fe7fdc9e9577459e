-- How a run ends.
use Rattle.std.proofs.Common.{◌≡◌, ◌⊎◌, ◌∷◌, [], arith, inl, inr, length, refl, subst, sym, ℕ, List, Option, Result, Ok, Err, IfErr, IfOk, OnOk}
use Rattle.std.proofs.KnownBytes.{Keeps-refl}
use Rattle.std.proofs.lemmas.Result.{IfErr-weaker, IfOk-weaker}
use Rattle.lpis_run.specs.CheckAnswer.{Answer}
use Rattle.lpis_run.specs.Outputs.{BreaksOff, Held, Outputs, Writes}
use Rattle.lpis_run.specs.Run.{BreaksOffIn, Runs, RunsBoth, RunsOn}
use Rattle.lpis_run.specs.Failures.{AreUnread, AreUntouched}
use Rattle.lpis_run.specs.Streams.{Begins, Known}
use Rattle.lpis_run.specs.declared.failure.Failure.{Failure}
use Rattle.lpis_run.specs.declared.failure.Failure.TheVariants.{Memory, Read, Write}
use Rattle.lpis_run.specs.declared.failure.Name.{Name}
use Rattle.lpis_run.specs.declared.failure.Name.TheVariants.{Out}
use Rattle.lpis_run.proofs.Common.{Appends}
use Rattle.std.specs.Io.KnownBytes.{Keeps}

-- where an input is not read, or memory runs out, the failure says no more
pub some_unread : (inputs : List (Name × Known)) (f : Failure) → AreUnread inputs f → (f ≡ Memory) ⊎ ((name : Name) × (f ≡ Read name))
some_unread [] f never = absurd never
some_unread (input ∷ inputs) f (inl (inl memory)) = inl memory
some_unread (input ∷ inputs) f (inl (inr is)) = inr (input.0, is)
some_unread (input ∷ inputs) f (inr (within, unread)) = some_unread inputs f unread

-- a run that was stopped wrote nothing
pub runs_stopped : (Stops : Failure → Type 0) (Answers : Answer → Type 0) (out : Option (List ℕ)) (failure : Failure) → Stops failure → Runs Stops Answers out out (Err failure)
runs_stopped Stops Answers out failure stops = record { answer = tt; failure = inl (stops, Keeps-refl out) }

-- a run that has an answer wrote it, or a beginning of it
pub runs_written : (Stops : Failure → Type 0) (Answers : Answer → Type 0) (text : List ℕ) (status : ℕ) (old new : Option (List ℕ)) (result : Result ℕ Failure) → Answers (text, status)
    → IfOk result (λ s. s ≡ status) → OnOk result (Appends old new text) → IfErr result (λ failure. (failure ≡ Write Out) × Begins old new text)
    → Runs Stops Answers old new result
runs_written Stops Answers text status old new (Ok s) answers is written begun =
    record { answer = (text, subst (λ (n : ℕ). Answers (text, n)) (sym is) answers, written); failure = tt }
runs_written Stops Answers text status old new (Err f) answers is written begun =
    record { answer = tt; failure = inr (begun.0, (text, status), answers, begun.1) }

-- so it is of a run that writes a certificate
pub both_stopped : {E : Type 0} (Stops : Failure → Type 0) (Answers : Outputs → Type 0) (outs : Held E) (failure : Failure) → Stops failure → RunsBoth Stops Answers outs outs (Err failure)
both_stopped Stops Answers outs failure stops = record { answer = tt; failure = inl (stops, refl, Keeps-refl outs.out) }

-- and so if it has an answer
pub both_written : {E : Type 0} (Stops : Failure → Type 0) (Answers : Outputs → Type 0) (a : Outputs) (old new : Held E) (result : Result ℕ Failure) → Answers a
    → IfOk result (λ status. Writes a status old new) → IfErr result (λ failure. BreaksOff a failure old new) → RunsBoth Stops Answers old new result
both_written Stops Answers a old new result answers written broken = record {
  answer = IfOk-weaker result _ _ (λ status all. (a, answers, all)) written;
  failure = IfErr-weaker result _ _ (λ failure part. inr (a, answers, part)) broken;
}

-- ---- a run that writes lines as it goes on
-- what breaks off so breaks off as a run that more stops, and that has more answers
pub breaks_off_more : (S T : List ℕ → Failure → Type 0) (A B : Answer → Type 0) (old new : Option (List ℕ)) (f : Failure) → ((lines : List ℕ) (g : Failure) → S lines g → T lines g)
    → ((a : Answer) → A a → B a) → BreaksOffIn S A old new f → BreaksOffIn T B old new f
breaks_off_more S T A B old new f stops answers (inl (lines, stopped, written)) = inl (lines, stops lines f stopped, written)
breaks_off_more S T A B old new f stops answers (inr (write, (text, inl (g, stopped), begins))) = inr (write, (text, inl (g, stops text g stopped), begins))
breaks_off_more S T A B old new f stops answers (inr (write, (text, inr (status, answer), begins))) = inr (write, (text, inr (status, answers (text, status) answer), begins))

-- so it is of the whole run
pub runs_on_more : (P Q : Failure → Type 0) (S T : List ℕ → Failure → Type 0) (A B : Answer → Type 0) (old new : Option (List ℕ)) (r : Result ℕ Failure) → ((f : Failure) → P f → Q f)
    → ((lines : List ℕ) (g : Failure) → S lines g → T lines g) → ((a : Answer) → A a → B a) → RunsOn P S A old new r → RunsOn Q T B old new r
runs_on_more P Q S T A B old new (Ok status) before behind answers runs = record { answer = (runs.answer.0, answers _ runs.answer.1, runs.answer.2); failure = tt }
runs_on_more P Q S T A B old new (Err f) before behind answers runs = record { answer = tt; failure = more runs.failure }
  where
    more : (P f × Keeps old new) ⊎ BreaksOffIn S A old new f → (Q f × Keeps old new) ⊎ BreaksOffIn T B old new f
    more (inl (stopped, keeps)) = inl (before f stopped, keeps)
    more (inr broken) = inr (breaks_off_more S T A B old new f behind answers broken)

-- a run that was stopped wrote nothing
pub runs_on_stopped : (P : Failure → Type 0) (S : List ℕ → Failure → Type 0) (A : Answer → Type 0) (out : Option (List ℕ)) (f : Failure) → P f → RunsOn P S A out out (Err f)
runs_on_stopped P S A out f stopped = record { answer = tt; failure = inl (stopped, Keeps-refl out) }

-- a run that has an answer wrote it, or a beginning of it
pub runs_on_written : (P : Failure → Type 0) (S : List ℕ → Failure → Type 0) (A : Answer → Type 0) (text : List ℕ) (status : ℕ) (old new : Option (List ℕ)) (r : Result ℕ Failure) → A (text, status)
    → IfOk r (λ s. s ≡ status) → OnOk r (Appends old new text) → IfErr r (λ failure. (failure ≡ Write Out) × Begins old new text) → RunsOn P S A old new r
runs_on_written P S A text status old new (Ok s) answers is written begun = record { answer = (text, subst (λ (n : ℕ). A (text, n)) (sym is) answers, written); failure = tt }
runs_on_written P S A text status old new (Err f) answers is written begun = record { answer = tt; failure = inr (inr (begun.0, (text, inr (status, answers), begun.1))) }

-- ---- readers behind the one that a failure names
-- a failure that names no input of the run
abbrev pub NamesNone : Failure → Type 0
NamesNone f = (name : Name) → f ≡ Read name → ⊥

-- out of memory names none
pub memory_names_none : (f : Failure) → f ≡ Memory → NamesNone f
memory_names_none f memory name is = cc (memory, is)

-- nor does an output that failed
pub write_names_none : (file : Name) (f : Failure) → f ≡ Write file → NamesNone f
write_names_none file f write name is = cc (write, is)

-- says nothing of its readers
pub untouched_unnamed : {R : Type 0} (old new : List (Name × R)) (f : Failure) → length old ≡ length new → NamesNone f → AreUntouched old new f
untouched_unnamed [] [] f same none = tt
untouched_unnamed [] (y ∷ ys) f same none = absurd (omega (arith, same))
untouched_unnamed (x ∷ xs) [] f same none = absurd (omega (arith, same))
untouched_unnamed (x ∷ xs) (y ∷ ys) f same none = (λ is. absurd (none x.0 is), untouched_unnamed xs ys f (omega (arith, same)) none)

-- a run that writes lines as it goes on names no input, where none is named by what stops it
pub runs_on_unnamed : (P : Failure → Type 0) (S : List ℕ → Failure → Type 0) (A : Answer → Type 0) (old new : Option (List ℕ)) (r : Result ℕ Failure)
    → ((f : Failure) → P f → NamesNone f) → ((lines : List ℕ) (f : Failure) → S lines f → NamesNone f) → RunsOn P S A old new r → IfErr r NamesNone
runs_on_unnamed P S A old new (Ok status) before behind runs = tt
runs_on_unnamed P S A old new (Err f) before behind runs = by runs.failure
  where
    by : (P f × Keeps old new) ⊎ BreaksOffIn S A old new f → NamesNone f
    by (inl (stopped, keeps)) = before f stopped
    by (inr (inl (lines, stopped, written))) = behind lines f stopped
    by (inr (inr (write, begun))) = write_names_none Out f write
