-- The readers of a submission, where a failure names none of them.
use Rattle.std.proofs.Common.{◌≡◌, ◌⊎◌, ◌++◌, ◌∷◌, [], inl, inr, refl, length, is_some, Option, None, Some}
use Rattle.lpis_run.specs.Failures.{AreUntouched}
use Rattle.lpis_run.specs.Folders.{cert_named, submission_named, tables_named}
use Rattle.lpis_run.specs.Outputs.{BreaksOff, Held, Outputs}
use Rattle.lpis_run.specs.declared.failure.Failure.{Failure}
use Rattle.lpis_run.specs.declared.failure.Name.TheVariants.{Cert, Lineage, Out}
use Rattle.lpis_run.specs.declared.folder.Submission.{Submission}
use Rattle.lpis_run.proofs.Shared.{NamesNone, memory_names_none, untouched_unnamed, write_names_none}
use Rattle.lpis_run_publish.specs.Publication.{IsMemoryOrStore}

-- nothing is said of them
pub submission_unnamed : {R : Type 0} (old new : Submission R) (f : Failure) → is_some new.folder.cert ≡ is_some old.folder.cert → NamesNone f
    → AreUntouched (submission_named old) (submission_named new) f
submission_unnamed {R = R} old new f same none = untouched_unnamed (submission_named old) (submission_named new) f (as-many old.folder.cert new.folder.cert same) none
  where
    as-many : (before after : Option R) → is_some after ≡ is_some before
        → length ((tables_named old.folder.tables ++ cert_named before) ++ (Lineage, old.lineage) ∷ []) ≡ length ((tables_named new.folder.tables ++ cert_named after) ++ (Lineage, new.lineage) ∷ [])
    as-many None None e = refl
    as-many None (Some b) e = absurd (cc e)
    as-many (Some a) None e = absurd (cc e)
    as-many (Some a) (Some b) e = refl

-- a failure of memory or of the database names none
pub store_names_none : (f : Failure) → IsMemoryOrStore f → NamesNone f
store_names_none f (inl memory) = memory_names_none f memory
store_names_none f (inr (inl store)) = λ name is. cc (store, is)
store_names_none f (inr (inr memory)) = λ name is. cc (memory, is)

-- nor does one of an output
pub broken_names_none : {E : Type 0} (a : Outputs) (f : Failure) (old new : Held E) → BreaksOff a f old new → NamesNone f
broken_names_none a f old new (inl broken) = write_names_none Cert f broken.0
broken_names_none a f old new (inr broken) = write_names_none Out f broken.0
