-- How a run over a country begins, and how it ends before its regions.
use Rattle.std.proofs.Common.{◌≡◌, ◌≤◌, ◌<◌, ◌⊎◌, inl, inr, refl, subst, ℕ, List, Option, Result, Ok, Err, IfErr, IfOk, OnOk}
use Rattle.std.proofs.lemmas.Result.{IfErr-weaker}
use Rattle.std.specs.Io.KnownBytes.{Appends, Keeps}
use Rattle.sqlite_trees.specs.declared.store.Store.{Ghosts}
use Rattle.lpis_lineage.specs.Lineage.{last_year}
use Rattle.lpis_register.specs.Holdings.{RegisterState}
use Rattle.lpis_register.specs.declared.fault.PublishFault.TheVariants.{Year}
use Rattle.lpis_run.proofs.Shared.{runs_on_more, runs_on_stopped, runs_on_written, some_unread}
use Rattle.lpis_run.specs.CheckAnswer.{Answer}
use Rattle.lpis_run.specs.Failures.{AreUnread}
use Rattle.lpis_run.specs.Status.{refused}
use Rattle.lpis_run.specs.Streams.{Begins}
use Rattle.lpis_run.specs.declared.answer.Answer.{Answer as Printed}
use Rattle.lpis_run.specs.declared.failure.Failure.{Failure}
use Rattle.lpis_run.specs.declared.failure.Failure.TheVariants.{Memory, Read, Write}
use Rattle.lpis_run.specs.declared.failure.Name.{Name}
use Rattle.lpis_run.specs.declared.failure.Name.TheVariants.{Lineage, Out}
use Rattle.lpis_run_publish.proofs.Shared.{stays_as, stays_untouched}
use Rattle.lpis_run_publish.specs.LineageLines.{publish_refusal_text}
use Rattle.lpis_run_publish.specs.Stored.{IsStoreFailure}
use Rattle.lpis_run_publish_country.specs.CountryLineage.{IsUnreadTable}
use Rattle.lpis_run_publish_country.specs.PublishCountryAnswer.{AreTopRead, CountryFiles, CountryRequest, IsRefusedBefore, PublishCountryInputs}
use Rattle.lpis_run_publish_country.specs.PublishCountryRuns.{IsUnion, IsUnionRead, RunsPublishCountry, StopsAtLineage, files_named}
use Rattle.lpis_run_publish_country.specs.private.Deciding.{RunsEarly, RunsPrepared}
use Rattle.lpis_run_publish_country.proofs.EndLemmas.{none_of_store, read_no_store}

-- ---- failures
-- the database did not fail where a lineage table was not read
lineage-no-store : (given : CountryFiles) (x : PublishCountryInputs) (f : Failure) → StopsAtLineage given x f → IsStoreFailure f → ⊥
lineage-no-store given x f (inl memory) = none_of_store f (inl memory)
lineage-no-store given x f (inr (plan, classes, planned, table, (blocks, of_exact, at))) = table-no-store at.name at.is
  where
    table-no-store : (name : List ℕ) → IsUnreadTable name f → IsStoreFailure f → ⊥
    table-no-store name (inl memory) = none_of_store f (inl memory)
    table-no-store name (inr read) = read_no_store Lineage name f read

-- nor where a file that is no region's was not
input-no-store : (given : CountryFiles) (f : Failure) → AreUnread (files_named given) f → IsStoreFailure f → ⊥
input-no-store given f unread = no-store (some_unread (files_named given) f unread)
  where
    no-store : (f ≡ Memory) ⊎ ((name : Name) × (f ≡ Read name)) → IsStoreFailure f → ⊥
    no-store (inl memory) = none_of_store f (inl memory)
    no-store (inr read) = none_of_store f (inr (inl read))

module _ {S : Type 0} (store : Ghosts S) (asked : CountryRequest) where
  -- ---- before the regions
  module _ (old : RegisterState S) (x : PublishCountryInputs) where
    -- a lineage table is not read, or memory runs out
    pub runs_unprepared : (out : Option (List ℕ)) (f : Failure) → StopsAtLineage asked.given x f → RunsPrepared store asked x old old out out (Err f)
    runs_unprepared out f stopped = record {
      runs = runs_on_stopped _ _ _ out f (refl, stopped);
      stored = stays_untouched store (IsUnion asked x) old (Err f) (lineage-no-store asked.given x f stopped);
    }

    -- a file has a fault, whose line is written, or a beginning of it
    pub runs_faulty : (before after : Option (List ℕ)) (a : Printed) (r : Result ℕ Failure) → IsRefusedBefore asked.given x (a.text.items, a.status) → IfOk r (λ s. s ≡ a.status)
        → OnOk r (Appends before after a.text.items) → IfErr r (λ failure. (failure ≡ Write Out) × Begins before after a.text.items)
        → RunsPrepared store asked x old old before after r
    runs_faulty before after a r refusal is written begun = record {
      runs = runs_on_written _ _ _ a.text.items a.status before after r (inl refusal, λ other. refl) is written begun;
      stored = stays_untouched store (IsUnion asked x) old r (IfErr-weaker r _ _ (λ failure part. none_of_store failure (inr (inr part.0))) begun);
    }

  -- ---- the whole run
  -- in a year that is not above the last one
  module _ (old : RegisterState S) (before after : Option (List ℕ)) (last : ℕ) (is_last : last ≡ last_year old.held.history) (early : asked.year ≤ last) where
    not-above : asked.year ≤ last_year old.held.history
    not-above = subst (λ (n : ℕ). asked.year ≤ n) is_last early

    -- the database did not fail then
    early-no-store : (f : Failure) → ((f ≡ Memory) × Keeps before after)
        ⊎ ((f ≡ Write Out) × (a : Answer) × (a ≡ (publish_refusal_text (Year last), refused)) × Begins before after a.0)
        → IsStoreFailure f → ⊥
    early-no-store f (inl (memory, keeps)) = none_of_store f (inl memory)
    early-no-store f (inr (write, a, told, begins)) = none_of_store f (inr (inr write))

    early-none : (r : Result ℕ Failure) → RunsEarly last before after r → IfErr r (λ f. IsStoreFailure f → ⊥)
    early-none (Ok status) ran = tt
    early-none (Err f) ran = early-no-store f ran.failure

    pub runs_early : (r : Result ℕ Failure) → RunsEarly last before after r → RunsPublishCountry store asked old old before after r
    runs_early r ran = record {
      runs = inl (not-above, refl, subst (λ (n : ℕ). RunsEarly n before after r) is_last ran);
      stored = stays_untouched store (IsUnionRead asked) old r (early-none r ran);
    }

  -- where a file that is no region's is not read
  pub runs_unread : (old : RegisterState S) (out : Option (List ℕ)) (f : Failure) → last_year old.held.history < asked.year → AreUnread (files_named asked.given) f
      → RunsPublishCountry store asked old old out out (Err f)
  runs_unread old out f later unread = record {
    runs = inr (later, runs_on_stopped _ _ _ out f (refl, inl unread));
    stored = stays_untouched store (IsUnionRead asked) old (Err f) (input-no-store asked.given f unread);
  }

  -- what was read is that of the whole run
  pub runs_later : (old new : RegisterState S) (before after : Option (List ℕ)) (x : PublishCountryInputs) (r : Result ℕ Failure) → last_year old.held.history < asked.year
      → AreTopRead x asked.given → RunsPrepared store asked x old new before after r → RunsPublishCountry store asked old new before after r
  runs_later old new before after x r later read ran = record {
    runs = inr (
      later,
      runs_on_more _ _ _ _ _ _ before after r (λ f why. (why.0, inr (x, read, why.1))) (λ lines f why. (x, read, why)) (λ a is. ((x, read, is.0), is.1)) ran.runs,
    );
    stored = stays_as store (IsUnion asked x) (IsUnionRead asked) (λ c is. (x, read, is)) old new r r (λ other. other) (λ X told. told) ran.stored;
  }
