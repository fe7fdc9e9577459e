-- How a run over a country and a register ends.
use Rattle.std.proofs.Common.{◌≡◌, ◌⊎◌, ◌++◌, ◌∷◌, ◌∙◌, ◌+◌, ◌≢◌, [], inl, inr, refl, sym, ap, subst, ℕ, List, Option, Result, Ok, Err, IfErr, IfOk, OnOk, length, take}
use Rattle.std.proofs.KnownBytes.{Appends-kept, Appends-trans}
use Rattle.std.proofs.Math.Seq.{take-append-add}
use Rattle.std.proofs.lemmas.Result.{IfErr-weaker}
use Rattle.std.specs.Io.KnownBytes.{Appends, Keeps}
use Rattle.sqlite_trees.specs.declared.store.Store.{Ghosts}
use Rattle.lpis_release.specs.Release.{Contents}
use Rattle.lpis_country.specs.Country.{country_of}
use Rattle.lpis_country.specs.Tree.{folders}
use Rattle.lpis_register.specs.Holdings.{Candidate, RegisterState}
use Rattle.lpis_run.proofs.Shared.{breaks_off_more, runs_stopped, runs_written}
use Rattle.lpis_run.specs.CheckAnswer.{Answer}
use Rattle.lpis_run.specs.Run.{BreaksOffIn}
use Rattle.lpis_run.specs.Status.{done}
use Rattle.lpis_run.specs.Streams.{Begins}
use Rattle.lpis_run.specs.declared.answer.Answer.{Answer as Printed}
use Rattle.lpis_run.specs.declared.failure.Failure.{Failure}
use Rattle.lpis_run.specs.declared.failure.Failure.TheVariants.{Memory, Read, Write}
use Rattle.lpis_run.specs.declared.failure.Name.{Name}
use Rattle.lpis_run.specs.declared.failure.Name.TheVariants.{Out}
use Rattle.lpis_run_country.specs.CountryAnswer.{HavePassed, IsBehind, IsReachedBy, IsRegionsAnswer, Setting}
use Rattle.lpis_run_country.specs.CountryLines.{country_lines}
use Rattle.lpis_run_country.specs.CountryFailures.{IsReadOf, IsStoppedBefore, StopsRegions}
use Rattle.lpis_run_country.specs.Regions.{Texts}
use Rattle.lpis_run_country.specs.RegionsOutcome.{IsRegionsRefusal, JoinsRegions, RegionsEnd, RegionsStop}
use Rattle.lpis_run_country.specs.declared.joining.Joining.{Joining}
use Rattle.lpis_run_country.proofs.Shared.{all_left}
use Rattle.lpis_run_publish.proofs.Shared.{stays_as}
use Rattle.lpis_run_publish.specs.Publication.{IsMemoryOrStore, PublishLeaves}
use Rattle.lpis_run_publish.specs.Stored.{IsStoreFailure, Stays}
use Rattle.lpis_run_publish_country.specs.PublishCountryAnswer.{AreSaid, CountryRequest, CountrySaid, IsPublishCountryAnswer, IsUnionAnswer, PublishCountryInputs}
use Rattle.lpis_run_publish_country.specs.PublishCountryAnswer.{setting_said, union_of}
use Rattle.lpis_run_publish_country.specs.PublishCountryRuns.{IsUnion, StopsBehind}
use Rattle.lpis_run_publish_country.specs.private.Deciding.{DecidesUnion, EndsUnion, PublishesCountry, RunsPrepared, StopsUnion}

-- ---- writers
-- a beginning of what follows a text
pub begins_behind : (old now new : Option (List ℕ)) (a b : List ℕ) → Appends old now a → Begins now new b → Begins old new (a ++ b)
begins_behind old now new a b h (n, k) = (length a + n, subst (Appends old new) (sym (take-append-add a b n)) (Appends-trans old now new a (take n b) h k))

-- ---- failures
-- the database did not fail where a file was not read, or the output failed, or memory ran out
pub none_of_store : (failure : Failure) → (failure ≡ Memory) ⊎ ((n : Name) × (failure ≡ Read n)) ⊎ (failure ≡ Write Out) → IsStoreFailure failure → ⊥
none_of_store failure (inl e) (inl x) = cc (e, x)
none_of_store failure (inl e) (inr x) = cc (e, x)
none_of_store failure (inr (inl r)) (inl x) = cc (r.1, x)
none_of_store failure (inr (inl r)) (inr x) = cc (r.1, x)
none_of_store failure (inr (inr e)) (inl x) = cc (e, x)
none_of_store failure (inr (inr e)) (inr x) = cc (e, x)

-- nor where a file of a region's folder was not read
pub read_no_store : (file : Name) (name : List ℕ) (f : Failure) → IsReadOf file name f → IsStoreFailure f → ⊥
read_no_store file name f (region, told, is) (inl x) = cc (is, x)
read_no_store file name f (region, told, is) (inr x) = cc (is, x)

-- nor where a run stopped before a region
stopped-no-store : (texts : List ℕ → Texts) (left : List (List ℕ)) (f : Failure) → IsStoppedBefore texts left f → IsStoreFailure f → ⊥
stopped-no-store texts [] f memory = none_of_store f (inl memory)
stopped-no-store texts (name ∷ left) f (inl memory) = none_of_store f (inl memory)
stopped-no-store texts (name ∷ left) f (inr (file, unread, read)) = read_no_store file name f read

-- so it is of a run that broke off before its last region
pub stop_no_store : (s : Setting) (old new : Option (List ℕ)) (f : Failure) → RegionsStop s old new f → IsStoreFailure f → ⊥
stop_no_store s old new f (inl (lines, (regions, left, reached, stopped), written)) = stopped-no-store s.texts left f stopped
stop_no_store s old new f (inr (write, begun)) = none_of_store f (inr (inr write))

-- ---- the regions
-- a run over regions ends in a setting as in one that is equal
pub joins_as : (s t : Setting) (old new : Option (List ℕ)) (r : Result Joining Failure) → s ≡ t → JoinsRegions s old new r → JoinsRegions t old new r
joins_as s t old new r is = subst (λ (k : Setting). JoinsRegions k old new r) is

-- ---- the union
module _ {S : Type 0} (store : Ghosts S) (asked : CountryRequest) (said : CountrySaid) (regions : List Contents) (old new : RegisterState S) where
  abbrev It : Candidate → Type 0
  It c = c ≡ union_of asked.year said regions

  -- memory runs out, or the database fails
  pub union_stopped : (out : Option (List ℕ)) (failure : Failure) → IsMemoryOrStore failure × (new.held ≡ old.held) → Stays store It old {A = Printed} new (Err failure)
      → EndsUnion store asked said regions old new out out (Err failure)
  union_stopped out failure why stays = record {
    runs = runs_stopped _ _ out failure why;
    stored = stays_as store It It (λ c is. is) old new (Err failure) (Err failure) (λ other. other) (λ X told. told) stays;
  }

  -- the answer is written, or a beginning of it
  pub union_written : (before after : Option (List ℕ)) (a : Printed) (r : Result ℕ Failure) → IsUnionAnswer asked said regions old.held new.held (a.text.items, a.status)
      → PublishLeaves store It old new (Ok a) → IfOk r (λ s. s ≡ a.status) → OnOk r (Appends before after a.text.items)
      → IfErr r (λ failure. (failure ≡ Write Out) × Begins before after a.text.items) → EndsUnion store asked said regions old new before after r
  union_written before after a r answer leaves is written begun = record {
    runs = runs_written _ _ a.text.items a.status before after r (answer, leaves.same) is written begun;
    stored = stays_as store It It (λ c is. is) old new (Ok a) r (λ other. tt)
        (λ X told. IfErr-weaker r _ _ (λ failure part of. absurd (none_of_store failure (inr (inr part.0)) of)) begun) leaves.stored;
  }

-- ---- the run
module _ {S : Type 0} (store : Ghosts S) (asked : CountryRequest) (x : PublishCountryInputs) (old new : RegisterState S) (before after : Option (List ℕ))
    (said : CountrySaid) (are_said : AreSaid asked.given x said) where
  -- the setting of the regions
  abbrev here : Setting
  here = setting_said asked.given asked.detail said

  ends-at : (regions : List Contents) (left : List (List ℕ)) (end : Answer) → end.1 ≢ done → IsBehind here (λ rs a. a ≡ (country_lines (length rs) (country_of here.classes rs), done)) regions left end
      → IsBehind here (λ rs. IsUnionAnswer asked said rs old.held new.held) regions left end
  ends-at regions [] end not_done is = absurd (not_done (ap (λ (a : Answer). a.1) is))
  ends-at regions (name ∷ left) end not_done is = is

  -- a region is refused
  refused-answer : (whole : Answer) → whole.1 ≢ done → IsRegionsAnswer here whole → IsPublishCountryAnswer asked x old.held new.held whole
  refused-answer whole not_done a = inr (
    said,
    are_said,
    record {
      text = a.text;
      end = a.end;
      behind = record {
        regions = a.behind.regions;
        left = a.behind.left;
        reached = a.behind.reached;
        follows = ends-at a.behind.regions a.behind.left a.end (λ e. not_done (ap (λ (b : Answer). b.1) a.is ∙ e)) a.behind.follows;
      };
      is = a.is;
    },
  )

  -- and the register is as it was
  publishes-none : new.held ≡ old.held → (a : Answer) → IsRegionsRefusal here a → PublishesCountry asked x old.held new.held a
  publishes-none same a (answer, not_done) = (refused-answer a not_done answer, λ other. same)

  -- the run stops behind these lines
  stops-in-regions : new.held ≡ old.held → (lines : List ℕ) (f : Failure) → StopsRegions here lines f → StopsBehind asked x old.held new.held lines f
  stops-in-regions same lines f stopped = record { said = said; are_said = are_said; stopped = inl stopped; same = same }

  -- behind the last region
  module _ (regions : List Contents) (lines : List ℕ) (now : Option (List ℕ)) (passed : HavePassed here (folders said.plan) regions lines) (printed : Appends before now lines) where
    reached-all : IsReachedBy here regions lines []
    reached-all = all_left here regions lines passed

    publishes-union : (a : Answer) → DecidesUnion asked said regions old.held new.held a → PublishesCountry asked x old.held new.held (lines ++ a.0, a.1)
    publishes-union a is = (
      inr (said, are_said, record { text = lines; end = a; behind = record { regions = regions; left = []; reached = reached-all; follows = is.0 }; is = refl }),
      is.1,
    )

    -- memory ran out or the database failed
    stops-union : (f : Failure) → IsMemoryOrStore f → new.held ≡ old.held → StopsBehind asked x old.held new.held lines f
    stops-union f (inl memory) same = record { said = said; are_said = are_said; stopped = inl (regions, [], reached-all, memory); same = same }
    stops-union f (inr failed) same = record { said = said; are_said = are_said; stopped = inr (regions, passed, failed); same = same }

    union-breaks-off : (f : Failure) → (StopsUnion old.held new.held f × Keeps now after)
        ⊎ ((f ≡ Write Out) × (a : Answer) × DecidesUnion asked said regions old.held new.held a × Begins now after a.0)
        → BreaksOffIn (StopsBehind asked x old.held new.held) (PublishesCountry asked x old.held new.held) before after f
    union-breaks-off f (inl (why, keeps)) = inl (lines, stops-union f why.0 why.1, Appends-kept before now after lines printed keeps)
    union-breaks-off f (inr (write, a, is, begins)) =
        inr (write, (lines ++ a.0, inr (a.1, publishes-union a is), begins_behind before now after lines a.0 printed begins))

    stays_union : (r : Result ℕ Failure) → Stays store (λ c. c ≡ union_of asked.year said regions) old new r → Stays store (IsUnion asked x) old new r
    stays_union r = stays_as store (λ c. c ≡ union_of asked.year said regions) (IsUnion asked x) (λ c is. (said, are_said, regions, lines, passed, is)) old new r r (λ other. other) (λ X told. told)

    -- all of it
    pub runs_union : (r : Result ℕ Failure) → EndsUnion store asked said regions old new now after r
        → RunsPrepared store asked x old new before after r
    runs_union (Ok status) e =
        let (text, answer, written) = e.runs.answer in
        record {
          runs = record { answer = (lines ++ text, publishes-union (text, status) answer, Appends-trans before now after lines text printed written); failure = tt };
          stored = stays_union (Ok status) e.stored;
        }
    runs_union (Err f) e = record {
      runs = record { answer = tt; failure = inr (union-breaks-off f e.runs.failure) };
      stored = stays_union (Err f) e.stored;
    }

  -- where a region is refused the register is as it was
  pub runs_refused : (status : ℕ) → new.held ≡ old.held → Stays store (IsUnion asked x) old {A = ℕ} new (Ok status) → RegionsEnd here before after status × (status ≢ done)
      → RunsPrepared store asked x old new before after (Ok status)
  runs_refused status same stays ((text, answer, written), not_done) = record {
    runs = record { answer = (text, publishes-none same (text, status) (answer, not_done), written); failure = tt };
    stored = stays;
  }

  -- where the run stops before its last region it is too
  pub runs_stopped_in : (f : Failure) → new.held ≡ old.held → Stays store (IsUnion asked x) old {A = ℕ} new (Err f) → RegionsStop here before after f
      → RunsPrepared store asked x old new before after (Err f)
  runs_stopped_in f same stays stop = record {
    runs = record {
      answer = tt;
      failure = inr (breaks_off_more (StopsRegions here) _ (IsRegionsRefusal here) _ before after f (stops-in-regions same) (publishes-none same) stop);
    };
    stored = stays;
  }
