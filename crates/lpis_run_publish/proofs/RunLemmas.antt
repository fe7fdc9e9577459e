-- How a run over a register ends.
use Rattle.std.proofs.Common.{◌≡◌, ◌⊎◌, inl, inr, refl, ℕ, List, Option, Result, Ok, Err, IfErr, IfOk, OnOk}
use Rattle.std.proofs.lemmas.Result.{IfErr-weaker}
use Rattle.sqlite_trees.specs.declared.store.Store.{Ghosts}
use Rattle.lpis_register.specs.Holdings.{RegisterState}
use Rattle.lpis_run.specs.Failures.{AreUnread}
use Rattle.lpis_run.specs.Folders.{submission_named}
use Rattle.lpis_run.specs.Streams.{Begins, Known}
use Rattle.lpis_run.specs.declared.answer.Answer.{Answer as Answered}
use Rattle.lpis_run.specs.declared.failure.Failure.{Failure}
use Rattle.lpis_run.specs.declared.failure.Failure.TheVariants.{Write}
use Rattle.lpis_run.specs.declared.failure.Name.TheVariants.{Out}
use Rattle.lpis_run.specs.declared.folder.Submission.{Submission}
use Rattle.lpis_run.proofs.Shared.{runs_stopped, runs_written, some_unread}
use Rattle.lpis_run_publish.proofs.Common.{Appends}
use Rattle.lpis_run_publish.proofs.LeavingLemmas.{stays_as, stays_untouched}
use Rattle.lpis_run_publish.specs.Publication.{IsMemoryOrStore}
use Rattle.lpis_run_publish.specs.PublishAnswer.{IsHandedIn, IsPublishAnswer, IsSoundCandidate, MovesRegister, RunsPublish}
use Rattle.lpis_run_publish.specs.Stored.{IsStoreFailure, Stays}
use Rattle.lpis_run_publish.specs.Submission.{AreAllRead, SubmissionInputs}

-- an input that is not read is no failure of the database
unread-no-store : (given : Submission Known) (failure : Failure) → AreUnread (submission_named given) failure → IsStoreFailure failure → ⊥
unread-no-store given failure unread (inl e) = elim (some_unread (submission_named given) failure unread) [ inl m ↦ cc (m, e) | inr r ↦ cc (r.1, e) ]
unread-no-store given failure unread (inr e) = elim (some_unread (submission_named given) failure unread) [ inl m ↦ cc (m, e) | inr r ↦ cc (r.1, e) ]

-- nor is an output that failed
write-no-store : {X : Type 0} (failure : Failure) → failure ≡ Write Out → IsStoreFailure failure → X
write-no-store failure is (inl e) = absurd (cc (is, e))
write-no-store failure is (inr e) = absurd (cc (is, e))

no-answer-of : (given : Submission Known) (failure : Failure) → IsMemoryOrStore failure → AreUnread (submission_named given) failure ⊎ IsStoreFailure failure
no-answer-of given failure (inl is) = inl (inl (inl is))
no-answer-of given failure (inr of) = inr of

-- ---- how the run ends
module _ {S : Type 0} (g : Ghosts S) (year : ℕ) (given : Submission Known) where
  -- where an input is not read all is as it was
  pub runs-unread : (old : RegisterState S) (out : Option (List ℕ)) (failure : Failure) → AreUnread (submission_named given) failure → RunsPublish g year given old old out out (Err failure)
  runs-unread old out failure unread = record {
    runs = runs_stopped _ _ out failure (inl unread, refl);
    stored = stays_untouched g (IsHandedIn year given) old (Err failure) (unread-no-store given failure unread);
  }

  -- where memory ran out or the database failed nothing is written
  pub runs-failed : (old new : RegisterState S) (out : Option (List ℕ)) (x : SubmissionInputs) (failure : Failure) → AreAllRead x given
      → IsMemoryOrStore failure × (new.held ≡ old.held) → Stays g (IsSoundCandidate year x) old {A = Answered} new (Err failure)
      → RunsPublish g year given old new out out (Err failure)
  runs-failed old new out x failure read why stays = record {
    runs = runs_stopped _ _ out failure (no-answer-of given failure why.0, why.1);
    stored = stays_as g (IsSoundCandidate year x) (IsHandedIn year given) (λ c is. (x, read, is)) old new (Err failure) (Err failure) (λ other. other) (λ X told. told) stays;
  }

  -- where there is an answer it is written, or a beginning of it
  pub runs-written : (old new : RegisterState S) (before after : Option (List ℕ)) (x : SubmissionInputs) (text : List ℕ) (status : ℕ) (answered : Answered) (r : Result ℕ Failure)
      → AreAllRead x given → IsPublishAnswer year x old.held (text, status) → MovesRegister year x old.held new.held status → Stays g (IsSoundCandidate year x) old new (Ok answered)
      → IfOk r (λ s. s ≡ status) → OnOk r (Appends before after text) → IfErr r (λ failure. (failure ≡ Write Out) × Begins before after text)
      → RunsPublish g year given old new before after r
  runs-written old new before after x text status answered r read answer moves stays is written begun = record {
    runs = runs_written _ _ text status before after r (x, read, (answer, moves)) is written begun;
    stored = stays_as g (IsSoundCandidate year x) (IsHandedIn year given) (λ c is. (x, read, is)) old new (Ok answered) r (λ other. tt)
        (λ X told. IfErr-weaker r _ _ (λ failure part. write-no-store failure part.0) begun) stays;
  }
