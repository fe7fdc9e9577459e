-- The readers of the files that are no region's: those behind the one that a failure names.
use Rattle.std.proofs.Common.{◌≡◌, ◌⊎◌, ◌++◌, ◌∷◌, [], ap, refl, inl, inr, length, is_some, ℕ, List, Option, None, Some, Result, Ok, Err, IfErr}
use Rattle.std.proofs.lemmas.Result.{IfErr-weaker}
use Rattle.std.specs.Io.KnownBytes.{Keeps}
use Rattle.sqlite_trees.specs.declared.store.Store.{Ghosts}
use Rattle.lpis_register.specs.Holdings.{Holdings, RegisterState}
use Rattle.lpis_run.proofs.Shared.{NamesNone, cert_last, memory_names_none, runs_on_unnamed, untouched_same, untouched_unnamed, write_names_none}
use Rattle.lpis_run.specs.Failures.{AreUnread, AreUntouched}
use Rattle.lpis_run.specs.Outputs.{BreaksOff, Held, Outputs}
use Rattle.lpis_run.specs.Run.{BreaksOffIn, RunsOnBoth}
use Rattle.lpis_run.specs.Streams.{Known}
use Rattle.std.specs.Io.KnownBytes.{Appends}
use Rattle.lpis_run.specs.declared.detail.Detail.TheVariants.{Regions}
use Rattle.lpis_run.specs.declared.failure.Failure.{Failure}
use Rattle.lpis_run.specs.declared.failure.Name.{Name}
use Rattle.lpis_run.specs.declared.failure.Name.TheVariants.{Cert, Lineage, Out}
use Rattle.lpis_run.specs.declared.folder.Top.{Top}
use Rattle.lpis_run.specs.Folders.{cert_named, top_named}
use Rattle.lpis_run_country.proofs.Shared.{read_of_names_none, regions_name_none}
use Rattle.lpis_run_publish.specs.Stored.{IsStoreFailure}
use Rattle.lpis_run_publish_country.specs.CountryLineage.{IsUnreadTable}
use Rattle.lpis_run_publish_country.specs.PublishCountryAnswer.{CountryFiles, CountryRequest, PublishCountryInputs, setting_said}
use Rattle.lpis_run_publish_country.specs.PublishCountryRuns.{StopsAtLineage, StopsBehind, inputs_named}
use Rattle.lpis_run_publish_country.specs.private.Deciding.{RunsPrepared}
use Rattle.lpis_run_publish_country.specs.private.Filling.{FillsPrepared, FillsWhole, StopsFillBehind}

-- ---- reading
module _ {R : Type 0} where
  pub untouched_whole : (files : List (Name × R)) (r : Result ℕ Failure) → IfErr r (AreUntouched files files)
  untouched_whole files (Ok status) = tt
  untouched_whole files (Err f) = untouched_same files f

  -- so is the certificate, where a file at the top is not read
  pub top_unread : (old new : Top R) (exact : Option R) (f : Failure) → AreUntouched (top_named old) (top_named new) f → AreUntouched (inputs_named old exact) (inputs_named new exact) f
  top_unread old new exact f h = (λ is. ap (λ (files : List (Name × R)). files ++ cert_named exact) (h.0 is), (λ is. refl, untouched_same (cert_named exact) f))

  pub exact_unread : (old new : Top R) (e after : Option R) (told : Option Known) (f : Failure) → is_some after ≡ is_some e → AreUnread (cert_named told) f
      → AreUntouched (inputs_named old e) (inputs_named new after) f
  exact_unread old new e after None f same never = absurd never
  exact_unread old new e after (Some told) f same (inl (inl memory)) = (λ is. absurd (cc (memory, is)), (λ is. absurd (cc (memory, is)), cert_last e after f same))
  exact_unread old new e after (Some told) f same (inl (inr read)) = (λ is. absurd (cc (read, is)), (λ is. absurd (cc (read, is)), cert_last e after f same))
  exact_unread old new e after (Some told) f same (inr (within, never)) = absurd never

  -- as many as before
  as-many : (old new : Top R) (e after : Option R) → is_some after ≡ is_some e → length (inputs_named old e) ≡ length (inputs_named new after)
  as-many old new None None same = refl
  as-many old new None (Some b) same = absurd (cc same)
  as-many old new (Some a) None same = absurd (cc same)
  as-many old new (Some a) (Some b) same = refl

-- ---- behind them
lineage_names_none : (given : CountryFiles) (x : PublishCountryInputs) (f : Failure) → StopsAtLineage given x f → NamesNone f
lineage_names_none given x f (inl memory) = memory_names_none f memory
lineage_names_none given x f (inr (plan, classes, planned, table, (blocks, of_exact, at))) = table-names-none at.name at.is
  where
    table-names-none : (name : List ℕ) → IsUnreadTable name f → NamesNone f
    table-names-none name (inl memory) = memory_names_none f memory
    table-names-none name (inr read) = read_of_names_none Lineage name f read

store-names-none : (f : Failure) → IsStoreFailure f → NamesNone f
store-names-none f (inl store) name is = cc (store, is)
store-names-none f (inr memory) name is = cc (memory, is)

-- a run that publishes what was read names none of them
module _ {S : Type 0} (store : Ghosts S) (asked : CountryRequest) (x : PublishCountryInputs) where
  behind-names-none : (before after : Holdings) (lines : List ℕ) (f : Failure) → StopsBehind asked x before after lines f → NamesNone f
  behind-names-none before after lines f why = elim why.stopped [
    | inl stopped ↦ regions_name_none (setting_said asked.given asked.detail why.said) lines f stopped
    | inr (regions, passed, failed) ↦ store-names-none f failed
  ]

  pub prepared_untouched : {R : Type 0} (top end : Top R) (e after : Option R) (old new : RegisterState S) (was is : Option (List ℕ)) (r : Result ℕ Failure) → is_some after ≡ is_some e
      → RunsPrepared store asked x old new was is r → IfErr r (AreUntouched (inputs_named top e) (inputs_named end after))
  prepared_untouched top end e after old new was is r same ran =
      IfErr-weaker r NamesNone _ (λ f none. untouched_unnamed (inputs_named top e) (inputs_named end after) f (as-many top end e after same) none)
      (runs_on_unnamed _ _ _ was is r (λ f why. lineage_names_none asked.given x f why.1) (behind-names-none old.held new.held) ran.runs)

-- nor does a run that asks for their blocks
module _ {R : Type 0} (top end : Top R) (given : CountryFiles) (x : PublishCountryInputs) where
  none-untouched : (f : Failure) → NamesNone f → AreUntouched (top_named top) (top_named end) f
  none-untouched f none = untouched_unnamed (top_named top) (top_named end) f refl none

  pub earlier_untouched : (f : Failure) → StopsAtLineage given x f → AreUntouched (top_named top) (top_named end) f
  earlier_untouched f stopped = none-untouched f (lineage_names_none given x f stopped)

  pub filled_untouched : {E : Type 0} (before : Holdings) (old new : Held E) (r : Result ℕ Failure) → FillsPrepared given x before old new r
      → IfErr r (AreUntouched (top_named top) (top_named end))
  filled_untouched before old new (Ok status) ran = tt
  filled_untouched before old new (Err f) ran = none-untouched f (by ran.failure)
    where
      in-lines : BreaksOffIn (StopsFillBehind given x) (λ a. ⊥) old.out new.out f → NamesNone f
      in-lines (inl (lines, (said, are_said, stopped), written)) = regions_name_none (setting_said given Regions said) lines f stopped
      in-lines (inr (write, begun)) = write_names_none Out f write

      at-end : (o : Outputs) (mid : Known) → BreaksOff o f (record old { out = mid }) new → NamesNone f
      at-end o mid (inl broken) = write_names_none Cert f broken.0
      at-end o mid (inr broken) = write_names_none Out f broken.0

      by : (⊥ × (new.cert ≡ old.cert) × Keeps old.out new.out) ⊎ (BreaksOffIn (StopsFillBehind given x) (λ a. ⊥) old.out new.out f × (new.cert ≡ old.cert))
          ⊎ ((lines : List ℕ) × (o : Outputs) × FillsWhole given x before lines o × (mid : Known) × Appends old.out mid lines × BreaksOff o f (record old { out = mid }) new)
          → NamesNone f
      by (inl stopped) = absurd stopped.0
      by (inr (inl broken)) = in-lines broken.0
      by (inr (inr (lines, o, fills, mid, written, broken))) = at-end o mid broken
