-- What a run that asks for the blocks of a country has decided, and how it ends.
use Rattle.std.proofs.Common.{◌≡◌, ◌≢◌, ◌⊎◌, ◌<◌, ◌+◌, ◌-◌, ◌∙◌, ◌++◌, ◌∷◌, [], refl, sym, ap, ap₂, subst, arith, inl, inr, IfErr, IfOk, OnOk, ℕ, List, Option, None, Some, Result, Ok, Err}
use Rattle.std.proofs.Common.{length, take}
use Rattle.std.proofs.KnownBytes.{Keeps-refl}
use Rattle.std.proofs.Math.Seq.{take-append-add}
use Rattle.std.proofs.lemmas.Bool.{cases_lt}
use Rattle.std.proofs.lemmas.List.{append-nil, append_assoc, take-append-le}
use Rattle.std.specs.Io.KnownBytes.{Appends, Keeps, append_known}
use Rattle.lpis_release.specs.declared.parcel.Parcel.{Parcel}
use Rattle.lpis_release.specs.Release.{Contents}
use Rattle.lpis_cert.specs.declared.cert.Cert.{Cert}
use Rattle.lpis_country.specs.Country.{country_of}
use Rattle.lpis_lineage.specs.declared.row.Row.{Row}
use Rattle.lpis_register.specs.Holdings.{Holdings}
use Rattle.lpis_run.proofs.Shared.{breaks_off_more}
use Rattle.lpis_run.specs.CheckAnswer.{Answer}
use Rattle.lpis_run.specs.Outputs.{BreaksOff, Held, Outputs, Writer, Writes, held}
use Rattle.lpis_run.specs.Failures.{AreUnread}
use Rattle.lpis_run.specs.Run.{BreaksOffIn, RunsOnBoth}
use Rattle.lpis_run.specs.Status.{done}
use Rattle.lpis_run.specs.Streams.{Begins, Known}
use Rattle.lpis_run.specs.declared.answer.Answer.{Answer as Printed}
use Rattle.lpis_run.specs.declared.detail.Detail.TheVariants.{Regions}
use Rattle.lpis_run.specs.declared.failure.Failure.{Failure}
use Rattle.lpis_run.specs.declared.failure.Failure.TheVariants.{Memory, Write}
use Rattle.lpis_run.specs.declared.failure.Name.TheVariants.{Out}
use Rattle.lpis_run_country.proofs.Shared.{setting_begun}
use Rattle.lpis_run_country.specs.Beginning.{setting_in}
use Rattle.lpis_run_country.specs.CountryAnswer.{IsBehind, IsReachedBy, IsRegionsAnswer, Setting}
use Rattle.lpis_run_country.specs.CountryFailures.{IsStoppedBefore, StopsRegions}
use Rattle.lpis_run_country.specs.CountryLines.{country_lines}
use Rattle.lpis_run_country.specs.Regions.{Texts}
use Rattle.lpis_run_country.specs.RegionsOutcome.{JoinsAll, RegionsEnd, RegionsStop}
use Rattle.lpis_run_publish.specs.ExactAnswer.{AnswersMarks, FillsGroups, HasParts, HasTextOnlyIfDone, IsBlocksAnswer}
use Rattle.lpis_run_publish_country.specs.CountryLineage.{country_refusal_text, rows_in}
use Rattle.lpis_run_publish_country.specs.ExactCountryAnswer.{HasNoParts, RunsExactCountry}
use Rattle.lpis_run_publish_country.specs.PublishCountryAnswer.{AreTopRead, CountryFiles, CountrySaid, IsRefusedBefore, PublishCountryInputs, setting_said}
use Rattle.lpis_run_publish_country.specs.PublishCountryRuns.{StopsAtLineage, files_named}
use Rattle.lpis_run_publish_country.specs.declared.inputs.Prepared.{Prepared}
use Rattle.lpis_run_publish_country.specs.private.Filling.{FillsPrepared, FillsWhole, IsEmpty, IsFillOutcome, StopsFillBehind}
use Rattle.lpis_run_publish_country.specs.private.Preparing.{IsPrepared, said_of}

-- ---- the union
module _ (g : Setting) (tables : List (List Row)) (regions : List Contents) (before : Holdings) where
  -- a certificate with the parts of one that has none
  no-parts : (c made : Cert) → IsEmpty c → HasParts c made → HasNoParts made
  no-parts c made none has = record { pieces = has.pieces ∙ none.rest.pieces; parcels = has.parcels ∙ none.rest.parcels; pairs = has.pairs ∙ none.rest.pairs }

  -- the blocks that were found
  fill-asked : (c : Cert) (parcels : List Parcel) (rows : List Row) (text : Option (List ℕ)) (a : Answer) → IsEmpty c
      → AnswersMarks parcels rows (HasParts c) before text a → AnswersMarks parcels rows HasNoParts before text a
  fill-asked c parcels rows text a none (inl unkept) = inl unkept
  fill-asked c parcels rows text a none (inr asked) = inr (record {
    gs = asked.gs;
    xs = asked.xs;
    asks = asked.asks;
    answer = elim asked.answer [
      | inl unfilled ↦ inl unfilled
      | inr filled ↦ inr (filled.0, no-parts c filled.0 none filled.1, filled.2, filled.3, filled.4)
    ];
  })

  -- what was found of a union that may follow is its answer
  pub fill_ends : (c : Cert) (rows : List Row) (parcels : List Parcel) (o : Outputs) → parcels ≡ (country_of g.classes regions).parcels → rows ≡ rows_in tables → IsEmpty c
      → FillsGroups parcels rows c before o → IsFillOutcome g tables regions before o
  fill_ends c rows parcels o are of_rows none out =
      subst (λ (xs : List Parcel). HasTextOnlyIfDone (IsBlocksAnswer xs (rows_in tables) HasNoParts before (country_refusal_text g.names tables)) o) are
      (subst (λ (ls : List Row). HasTextOnlyIfDone (IsBlocksAnswer parcels ls HasNoParts before (country_refusal_text g.names tables)) o) of_rows
      (record { answer = inr (fill-asked c parcels rows o.cert (o.line, o.status) none out.answer); no_text = out.no_text }))

-- ---- what was begun
-- what the files before the regions say
abbrev fill-said : (given : CountryFiles) (x : PublishCountryInputs) (p : Prepared) → IsPrepared given x p → CountrySaid
fill-said given x p h = said_of h.begun.plan p h.tables

-- and the setting of the regions
abbrev pub fill_setting : (given : CountryFiles) (x : PublishCountryInputs) (p : Prepared) → IsPrepared given x p → Setting
fill_setting given x p h = setting_said given Regions (fill-said given x p h)

-- it is that of what was begun
pub is_fill_setting : (given : CountryFiles) (x : PublishCountryInputs) (p : Prepared) (h : IsPrepared given x p) (texts : List ℕ → Texts) → given.texts ≡ texts
    → setting_in texts Regions p.begun ≡ fill_setting given x p h
is_fill_setting given x p h texts told = ap (λ (t : List ℕ → Texts). setting_in t Regions p.begun) (sym told) ∙ setting_begun given.texts Regions x.country p.begun h.begun

-- ---- the regions
-- all of them
all-reached : (s : Setting) (regions : List Contents) (lines : List ℕ) → JoinsAll s regions lines → IsReachedBy s regions lines []
all-reached s regions lines joins = record { passed = s.names; all = sym (append-nil s.names); have_passed = joins.have_passed }

-- all of the first of two texts, and the rest
known-all : (o : Option (List ℕ)) (a : List ℕ) → Appends o (append_known o a) a
known-all None a = tt
known-all (Some xs) a = refl

known-rest : (o q : Option (List ℕ)) (a b : List ℕ) → Appends o q (a ++ b) → Appends (append_known o a) q b
known-rest None q a b e = tt
known-rest (Some xs) None a b e = e
known-rest (Some xs) (Some ys) a b e = e ∙ sym (append_assoc xs a b)

-- a beginning of two texts is one of the first, or all of it and one of the second
begins-split : (old new : Option (List ℕ)) (a b text : List ℕ) → text ≡ a ++ b → Begins old new text → Begins old new a ⊎ ((mid : Option (List ℕ)) × Appends old mid a × Begins mid new b)
begins-split old new a b text is (n, got) = elim (cases_lt (length a) n) [
  | inl more ↦ inr (append_known old a, known-all old a, (n - length a, known-rest old new a (take (n - length a) b) (subst (Appends old new) (takes more) got)))
  | inr few ↦ inl (n, subst (Appends old new) (ap (take n) is ∙ take-append-le n a b few) got)
]
  where
    back : length a < n → n ≡ length a + (n - length a)
    back lt = omega arith

    takes : length a < n → take n text ≡ a ++ take (n - length a) b
    takes lt = ap (take n) is ∙ ap (λ (m : ℕ). take m (a ++ b)) (back lt) ∙ take-append-add a b (n - length a)

-- memory may run out before any folder
stops-memory : (texts : List ℕ → Texts) (left : List (List ℕ)) → IsStoppedBefore texts left Memory
stops-memory texts [] = refl
stops-memory texts (name ∷ left) = inl refl

appends-nothing : (old : Option (List ℕ)) → Appends old old []
appends-nothing None = tt
appends-nothing (Some xs) = sym (append-nil xs)

-- ---- a region is refused
module _ (given : CountryFiles) (x : PublishCountryInputs) (p : Prepared) (h : IsPrepared given x p) (before : Holdings) where
  -- its line ends the run
  refused-end : (g : Setting) (regions : List Contents) (left : List (List ℕ)) (end : Answer)
      → IsBehind g (λ rs a. a ≡ (country_lines (length rs) (country_of g.classes rs), done)) regions left end → end.1 ≢ done
      → IsBehind g (λ rs. IsBlocksAnswer (country_of g.classes rs).parcels (rows_in h.tables) HasNoParts before (country_refusal_text g.names h.tables) None) regions left (end.0, end.1)
  refused-end g regions [] end is other = absurd (other (ap (λ (a : Answer). a.1) is))
  refused-end g regions (name ∷ left) end is other = is

  -- it and the lines before it
  abbrev refusal_of : {a : Answer} → IsRegionsAnswer (fill_setting given x p h) a → Outputs
  refusal_of answer = record { cert = None; line = answer.end.0; status = answer.end.1 }

  fills-refusal : (text : List ℕ) (status : ℕ) (answer : IsRegionsAnswer (fill_setting given x p h) (text, status)) → status ≢ done → FillsWhole given x before answer.text (refusal_of answer)
  fills-refusal text status answer other = record {
    fills = record {
      said = fill-said given x p h;
      are_said = h.said;
      behind = record {
        regions = answer.behind.regions;
        left = answer.behind.left;
        reached = answer.behind.reached;
        follows = refused-end (fill_setting given x p h) answer.behind.regions answer.behind.left answer.end answer.behind.follows
            (λ e. other (ap (λ (a : Answer). a.1) answer.is ∙ e));
      };
    };
    no_text = λ _. refl;
  }

  -- where it was written
  pub fill_refuses : {E : Type 0} (file : Writer E) (old new : Option (List ℕ)) (status : ℕ) → RegionsEnd (fill_setting given x p h) old new status → status ≢ done
      → FillsPrepared given x before (held file old) (held file new) (Ok status)
  fill_refuses file old new status (text, answer, written) other = record {
    answer = (
      answer.text,
      refusal_of answer,
      fills-refusal text status answer other,
      append_known old answer.text,
      known-all old answer.text,
      record {
        status_told = ap (λ (a : Answer). a.1) answer.is;
        certificate = refl;
        line = known-rest old new answer.text answer.end.0 (subst (Appends old new) (ap (λ (a : Answer). a.0) answer.is) written);
      },
    );
    failure = tt;
  }

  -- ---- no end of the regions
  -- a run that broke off so
  abbrev Broken : {E : Type 0} (file : Writer E) (old new : Option (List ℕ)) → Failure → Type 0
  Broken file old new f = (BreaksOffIn (StopsFillBehind given x) (λ a. ⊥) old new f × (file ≡ file))
      ⊎ ((lines : List ℕ) × (end : Outputs) × FillsWhole given x before lines end × (mid : Known) × Appends old mid lines × BreaksOff end f (held file mid) (held file new))

  stops-behind : (lines : List ℕ) (f : Failure) → StopsRegions (fill_setting given x p h) lines f → StopsFillBehind given x lines f
  stops-behind lines f stopped = (fill-said given x p h, h.said, stopped)

  -- where a beginning of a refusal was written
  refusal-broken : {E : Type 0} (file : Writer E) (old new : Option (List ℕ)) (f : Failure) (text : List ℕ) (status : ℕ) (answer : IsRegionsAnswer (fill_setting given x p h) (text, status))
      → status ≢ done
      → (f ≡ Write Out) → Begins old new answer.text ⊎ ((mid : Option (List ℕ)) × Appends old mid answer.text × Begins mid new answer.end.0) → Broken file old new f
  refusal-broken file old new f text status answer other write (inl begins) =
      let stopped = stops-behind answer.text Memory (answer.behind.regions, answer.behind.left, answer.behind.reached, stops-memory given.texts answer.behind.left) in
      inl (inr (write, (answer.text, inl (Memory, stopped), begins)), refl)
  refusal-broken file old new f text status answer other write (inr (mid, written, begins)) =
      inr (answer.text, refusal_of answer, fills-refusal text status answer other, mid, written, inr (write, refl, begins))

  breaks-in-regions : {E : Type 0} (file : Writer E) (old new : Option (List ℕ)) (f : Failure) → RegionsStop (fill_setting given x p h) old new f → Broken file old new f
  breaks-in-regions file old new f (inl (lines, stopped, written)) = inl (inl (lines, stops-behind lines f stopped, written), refl)
  breaks-in-regions file old new f (inr (write, (text, inl (other, stopped), begins))) =
      inl (inr (write, (text, inl (other, stops-behind text other stopped), begins)), refl)
  breaks-in-regions file old new f (inr (write, (text, inr (status, (answer, other)), begins))) =
      refusal-broken file old new f text status answer other write (begins-split old new answer.text answer.end.0 text (ap (λ (a : Answer). a.0) answer.is) begins)

  pub fill_stops : {E : Type 0} (file : Writer E) (old new : Option (List ℕ)) (f : Failure) → RegionsStop (fill_setting given x p h) old new f
      → FillsPrepared given x before (held file old) (held file new) (Err f)
  fill_stops file old new f stop = record { answer = tt; failure = inr (breaks-in-regions file old new f stop) }

  -- ---- behind the regions, which all passed
  module _ {E : Type 0} (regions : List Contents) (lines : List ℕ) (joins : JoinsAll (fill_setting given x p h) regions lines) (file : Writer E) (old now : Option (List ℕ))
      (written : Appends old now lines) where
    fills-all : (o : Outputs) → IsFillOutcome (fill_setting given x p h) h.tables regions before o → FillsWhole given x before lines o
    fills-all o out = record {
      fills = record {
        said = fill-said given x p h;
        are_said = h.said;
        behind = record { regions = regions; left = []; reached = all-reached (fill_setting given x p h) regions lines joins; follows = out.answer };
      };
      no_text = out.no_text;
    }

    -- the outcome was written, or a part of it
    pub fill_writes : (o : Outputs) (cert : Writer E) (out : Option (List ℕ)) (r : Result ℕ Failure) → IsFillOutcome (fill_setting given x p h) h.tables regions before o
        → IfOk r (λ status. Writes o status (held file now) (held cert out)) → IfErr r (λ f. BreaksOff o f (held file now) (held cert out))
        → FillsPrepared given x before (held file old) (held cert out) r
    fill_writes o cert out (Ok status) decided w broken = record { answer = (lines, o, fills-all o decided, now, written, w); failure = tt }
    fill_writes o cert out (Err f) decided w broken = record { answer = tt; failure = inr (inr (lines, o, fills-all o decided, now, written, broken)) }

    -- memory ran out before
    pub fill_spent : FillsPrepared given x before (held file old) (held file now) (Err Memory)
    fill_spent =
        let stopped = stops-behind lines Memory (regions, [], all-reached (fill_setting given x p h) regions lines joins, refl) in
        record { answer = tt; failure = inr (inl (inl (lines, stopped, written), refl)) }

-- ---- a run that writes a certificate behind its lines
-- what ends so ends as a run that more stops, and that has more answers
both-more : {E : Type 0} (P Q : Failure → Type 0) (S T : List ℕ → Failure → Type 0) (A B : List ℕ → Outputs → Type 0) (old new : Held E) (r : Result ℕ Failure) → ((f : Failure) → P f → Q f)
    → ((lines : List ℕ) (f : Failure) → S lines f → T lines f) → ((lines : List ℕ) (end : Outputs) → A lines end → B lines end) → RunsOnBoth P S A old new r → RunsOnBoth Q T B old new r
both-more P Q S T A B old new (Ok status) before behind answers runs =
    let (lines, end, answer, mid, wrote, rest) = runs.answer in
    record { answer = (lines, end, answers lines end answer, mid, wrote, rest); failure = tt }
both-more P Q S T A B old new (Err f) before behind answers runs = record { answer = tt; failure = more runs.failure }
  where
    more : (P f × (new.cert ≡ old.cert) × Keeps old.out new.out) ⊎ (BreaksOffIn S (λ a. ⊥) old.out new.out f × (new.cert ≡ old.cert))
        ⊎ ((lines : List ℕ) × (end : Outputs) × A lines end × (mid : Known) × Appends old.out mid lines × BreaksOff end f (record old { out = mid }) new)
        → (Q f × (new.cert ≡ old.cert) × Keeps old.out new.out) ⊎ (BreaksOffIn T (λ a. ⊥) old.out new.out f × (new.cert ≡ old.cert))
        ⊎ ((lines : List ℕ) × (end : Outputs) × B lines end × (mid : Known) × Appends old.out mid lines × BreaksOff end f (record old { out = mid }) new)
    more (inl (stopped, file, out)) = inl (before f stopped, file, out)
    more (inr (inl (broken, file))) = inr (inl (breaks_off_more S T (λ a. ⊥) (λ a. ⊥) old.out new.out f behind (λ a never. never) broken, file))
    more (inr (inr (lines, end, answer, mid, wrote, rest))) = inr (inr (lines, end, answers lines end answer, mid, wrote, rest))

-- ---- the run
module _ {E : Type 0} (given : CountryFiles) (before : Holdings) (file : Writer E) (out : Option (List ℕ)) where
  -- a file was not read
  pub runs_unread : (f : Failure) → AreUnread (files_named given) f → RunsExactCountry given before (held file out) (held file out) (Err f)
  runs_unread f unread = record { answer = tt; failure = inl (inl unread, refl, Keeps-refl out) }

  module _ (x : PublishCountryInputs) (read : AreTopRead x given) where
    -- nor a lineage table
    pub runs_earlier : (f : Failure) → StopsAtLineage given x f → RunsExactCountry given before (held file out) (held file out) (Err f)
    runs_earlier f stopped = record { answer = tt; failure = inl (inr (x, read, stopped), refl, Keeps-refl out) }

    -- what was read has a fault, whose line was written, or a beginning of it
    pub runs_refused : (new : Option (List ℕ)) (a : Printed) (r : Result ℕ Failure) → IsRefusedBefore given x (a.text.items, a.status) → IfOk r (λ s. s ≡ a.status)
        → OnOk r (Appends out new a.text.items) → IfErr r (λ failure. (failure ≡ Write Out) × Begins out new a.text.items)
        → RunsExactCountry given before (held file out) (held file new) r
    runs_refused new a (Ok status) refusal same written begun = record {
      answer = (
        [],
        record { cert = None; line = a.text.items; status = a.status },
        ((x, read, inl (refl, refusal)), λ _. refl),
        out,
        appends-nothing out,
        record { status_told = same; certificate = refl; line = written },
      );
      failure = tt;
    }
    runs_refused new a (Err f) refusal same written begun = record {
      answer = tt;
      failure = inr (inr (
        [],
        record { cert = None; line = a.text.items; status = a.status },
        ((x, read, inl (refl, refusal)), λ _. refl),
        out,
        appends-nothing out,
        inr (begun.0, refl, begun.1),
      ));
    }

    -- it has none
    pub runs_prepared : (cert : Writer E) (new : Option (List ℕ)) (r : Result ℕ Failure) → FillsPrepared given x before (held file out) (held cert new) r
        → RunsExactCountry given before (held file out) (held cert new) r
    runs_prepared cert new r h =
        both-more _ _ _ _ _ _ (held file out) (held cert new) r (λ f never. absurd never) (λ lines f why. (x, read, why)) (λ lines end is. ((x, read, inr is.fills), is.no_text)) h
