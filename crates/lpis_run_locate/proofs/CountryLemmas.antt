-- The search through the regions of a plan, as that in a country.
use Rattle.std.proofs.Common.{◌≡◌, ◌⊎◌, ◌∙◌, ◌∷◌, [], sym, ap, subst, arith, inl, inr, refl, IfErr, IfOk, OnOk, ℕ, List, None, Some, String, Result, Err, length, map}
use Rattle.std.proofs.lemmas.List.{append-nil}
use Rattle.std.specs.Io.KnownBytes.{Appends}
use Rattle.std.specs.String.{string_bytes}
use Rattle.std.specs.declared.alloc.Global.{Global}
use Rattle.lpis_points.specs.declared.boxes.Box4.{Box4}
use Rattle.lpis_tables.specs.Classes.{classes_table}
use Rattle.lpis_tables.specs.Faults.{rows_of}
use Rattle.lpis_tables.specs.declared.class.Class.{Class}
use Rattle.lpis_tables.specs.declared.fault.TableFault.{TableFault}
use Rattle.lpis_release.specs.Release.{Contents}
use Rattle.lpis_run.proofs.Shared.{NamesNone, memory_names_none, runs_stopped, runs_written, table-more, untouched_unnamed}
use Rattle.lpis_run.specs.Failures.{AreUnread, AreUntouched}
use Rattle.lpis_run.specs.Folders.{top_named}
use Rattle.lpis_run.specs.Streams.{Begins, Known}
use Rattle.lpis_run.specs.declared.folder.Top.{Top}
use Rattle.lpis_run.specs.declared.failure.Failure.TheVariants.{Write}
use Rattle.lpis_run.specs.declared.failure.Name.TheVariants.{Out}
use Rattle.lpis_run.specs.CheckAnswer.{Answer as TextStatus, IsTableAnswer}
use Rattle.lpis_run.specs.Stops.{IsRefusedAs}
use Rattle.lpis_run.specs.declared.answer.Answer.{Answer}
use Rattle.lpis_run.specs.declared.detail.Detail.TheVariants.{Regions}
use Rattle.lpis_run.specs.Status.{done}
use Rattle.lpis_run.specs.declared.stop.Stop.{Stop}
use Rattle.lpis_run.specs.declared.stop.Stop.TheVariants.{Refused}
use Rattle.lpis_country.specs.Country.{country_of}
use Rattle.lpis_country.specs.Tiling.{frame, rectangles}
use Rattle.lpis_country.specs.Union.{IsUnion}
use Rattle.lpis_country.specs.Tree.{folders}
use Rattle.lpis_country_seam.specs.Laws.{JoinedCountryIsSound, JoinedCountryIsUnion}
use Rattle.lpis_country_seam.specs.Open.{IsSeamOf}
use Rattle.lpis_run_country.specs.Beginning.{BegunParts, IsBegun, IsPlanned, IsUnbegun}
use Rattle.lpis_run.specs.declared.failure.Failure.{Failure}
use Rattle.lpis_run_country.specs.CountryAnswer.{BehindRegions, IsRefusedRegion, Setting, setting_of}
use Rattle.lpis_run_country.specs.CountryFailures.{StopsCountry}
use Rattle.lpis_run_country.specs.Regions.{AreCountryRead, AreUnited, Texts}
use Rattle.lpis_run_country.proofs.Shared.{country_names_none, passed_length, passed_regions, passed_sound, setting_begun, unbegun_no}
use Rattle.lpis_places.specs.Points.{points_of}
use Rattle.lpis_run_locate.specs.LocateAnswer.{ArePointsRead, IsPointsAnswer, points_named}
use Rattle.lpis_run_locate.specs.declared.points_in.PointsIn.{PointsIn}
use Rattle.lpis_run_locate.specs.declared.progress.Progress.{Progress}
use Rattle.lpis_run_locate.specs.LocateCountryAnswer.{AnswersLocateCountry, IsLocateCountryAnswer, RunsLocateCountry}
use Rattle.lpis_run_locate.specs.private.LocateRuns.{LocateCountryInputs}
use Rattle.lpis_run.specs.Run.{OfRead}
use Rattle.lpis_run_locate.specs.private.Found.{IsSearched}
use Rattle.lpis_run_locate.specs.private.Searching.{IsOutcome, IsStart, IsStopped, IsUnanswered, setting_at}
use Rattle.lpis_run_locate.proofs.PassingLemmas.{setting_begins}

-- the setting of the plan and the classes of what was begun
abbrev pub plan_setting : (List ℕ → Texts) → (x : LocateCountryInputs) (b : BegunParts) → IsBegun x.files b → Setting
plan_setting texts x b begun = setting_of texts Regions begun.plan b.classes

-- a search through its regions can start
pub starts : (texts : List ℕ → Texts) (table : List ℕ) (b : BegunParts) (names : List (String Global)) (tiles : List Box4) (classes : List Class) (p : Progress) → map string_bytes names ≡ b.names
    → tiles ≡ b.tiles → IsPlanned b.names b.tiles → IsSeamOf tiles classes [] p.seam → IsSearched table [] p.sought → IsStart (setting_at texts names p) table p
starts texts table b names tiles classes p names_are tiles_are planned seam searched = record {
  at = record {
    seam = subst (λ ts. IsSeamOf ts p.seam.classes.items [] p.seam) (sym seam.tiles_are) (subst (λ ks. IsSeamOf tiles ks [] p.seam) (sym seam.classes_are) seam);
    sought = searched;
  };
  as_many = ap length names_are ∙ planned.as_many ∙ sym (ap length (seam.tiles_are ∙ tiles_are));
}

-- its setting is that of the plan
pub begins : (texts : List ℕ → Texts) (x : LocateCountryInputs) (b : BegunParts) (begun : IsBegun x.files b) (names : List (String Global)) (tiles : List Box4) (classes : List Class) (p : Progress)
    → map string_bytes names ≡ b.names → tiles ≡ b.tiles → classes ≡ b.classes → IsSeamOf tiles classes [] p.seam → setting_at texts names p ≡ plan_setting texts x b begun
begins texts x b begun names tiles classes p names_are tiles_are classes_are seam =
    setting_begins texts b names tiles classes p names_are tiles_are classes_are seam ∙ setting_begun texts Regions x.files b begun

-- ---- the answer
-- the answer to the regions is that to the country
whole-answer : (texts : List ℕ → Texts) (x : LocateCountryInputs) (b : BegunParts) (begun : IsBegun x.files b) (lines : List ℕ) (a : TextStatus)
    → BehindRegions (plan_setting texts x b begun) (λ regions. IsPointsAnswer (country_of b.classes regions) (points_of x.points)) lines a → IsLocateCountryAnswer texts x a
whole-answer texts x b begun lines a h = inr (
  begun.plan,
  begun.text,
  subst (λ (said : Result (List Class) TableFault). IsTableAnswer (λ classes c. (ls : List ℕ)
      × BehindRegions (setting_of texts Regions begun.plan classes) (λ regions. IsPointsAnswer (country_of classes regions) (points_of x.points)) ls c) said a) (sym begun.table) (lines, h),
)

-- a region that is refused has no yes
refused-no : (s : Setting) (before : List Contents) (name text : List ℕ) (status : ℕ) → IsRefusedRegion s before name (text, status) → status ≡ done → ⊥
refused-no s before name text status (x, told, inl (b, refusal, is)) e = refusal.1 (sym (ap (λ (a : TextStatus). a.1) is) ∙ e)
refused-no s before name text status (x, told, inr (r, said, (fault, first, is))) e = one-is-not-done status (ap (λ (a : TextStatus). a.1) is) e
  where
    one-is-not-done : (n : ℕ) → n ≡ 1 → n ≡ 0 → ⊥
    one-is-not-done n one zero = omega arith

-- the answer to a region that is refused is that to the country
pub refused_answer : (texts : List ℕ → Texts) (x : LocateCountryInputs) (b : BegunParts) (begun : IsBegun x.files b) (p : Progress) (a : Answer)
    → IsOutcome (plan_setting texts x b begun) x.points p (Some a) → AnswersLocateCountry texts x (a.text.items, a.status)
refused_answer texts x b begun p a (regions, lines, name, left, reached, refusal) = record {
  answer = whole-answer texts x b begun lines (a.text.items, a.status) (record { regions = regions; left = name ∷ left; reached = reached; follows = refusal });
  located = λ e. absurd (refused-no (plan_setting texts x b begun) regions name a.text.items a.status refusal e);
}

-- all regions make up their union
pub all_unite : (texts : List ℕ → Texts) (x : LocateCountryInputs) (b : BegunParts) (begun : IsBegun x.files b) (p : Progress) → JoinedCountryIsUnion
    → (out : IsOutcome (plan_setting texts x b begun) x.points p None) → IsUnion out.0 (country_of b.classes out.0)
all_unite texts x b begun p unites (all, passed, at) = unites (rectangles begun.plan frame) b.classes all at.seam.joined

-- and a country that is a sound map
all-country : (texts : List ℕ → Texts) (x : LocateCountryInputs) (b : BegunParts) (begun : IsBegun x.files b) (p : Progress) → JoinedCountryIsSound → JoinedCountryIsUnion → IsPlanned b.names b.tiles
    → (out : IsOutcome (plan_setting texts x b begun) x.points p None) → AreUnited texts begun.plan b.classes out.0
all-country texts x b begun p law unites planned (all, (lines, passed), at) =
    let s = setting_of texts Regions begun.plan b.classes in
    let tiling = begun.plan in
    let long = sym (passed_length s (folders begun.plan) all lines passed) ∙ ap length (sym begun.names_are) ∙ planned.as_many ∙ ap length begun.tiles_are in
    record {
      of_folders = passed_regions s (folders begun.plan) all lines passed;
      same = at.seam.joined.classes_are;
      union = unites (rectangles tiling frame) b.classes all at.seam.joined;
      sound = law tiling b.classes all at.seam.joined (passed_sound s (folders begun.plan) all lines passed) long;
    }

-- the answer to the points in their union is that to the country
points-answer : (texts : List ℕ → Texts) (x : LocateCountryInputs) (b : BegunParts) (begun : IsBegun x.files b) (p : Progress) (a : TextStatus)
    → (out : IsOutcome (plan_setting texts x b begun) x.points p None) → IsPointsAnswer (country_of b.classes out.0) (points_of x.points) a → IsLocateCountryAnswer texts x a
points-answer texts x b begun p a (all, (lines, passed), at) said =
    whole-answer texts x b begun lines a (record {
      regions = all;
      left = [];
      reached = record { passed = folders begun.plan; all = sym (append-nil (folders begun.plan)); have_passed = passed };
      follows = said;
    })

-- where it is a yes, each point has the line of its own place in that country
pub located : (texts : List ℕ → Texts) (x : LocateCountryInputs) (b : BegunParts) (begun : IsBegun x.files b) (p : Progress) (a : TextStatus) → JoinedCountryIsSound → JoinedCountryIsUnion
    → IsPlanned b.names b.tiles → (out : IsOutcome (plan_setting texts x b begun) x.points p None) → IsPointsAnswer (country_of b.classes out.0) (points_of x.points) a → AnswersLocateCountry texts x a
located texts x b begun p a law unites planned out said = record {
  answer = points-answer texts x b begun p a out said;
  located = λ e. (
    record { plan = begun.plan; text = begun.text; classes = b.classes; table = begun.table; regions = out.0; united = all-country texts x b begun p law unites planned out },
    said,
  );
}

-- ---- no answer
-- a search that is stopped gives no answer to the country
pub stopped : (texts : List ℕ → Texts) (x : LocateCountryInputs) (b : BegunParts) (begun : IsBegun x.files b) (f : Failure) → IsStopped (plan_setting texts x b begun) f → IsUnanswered texts x f
stopped texts x b begun f (regions, lines, left, reached, stop) = inr (lines, (begun.plan, b.classes, begun.text, begun.table, (regions, left, reached, stop)))

-- ---- before the first region
-- an answer to inputs that have a fault before the first region is one to the country
unbegun-answer : (texts : List ℕ → Texts) (x : LocateCountryInputs) (a : TextStatus) → IsUnbegun x.files a → IsLocateCountryAnswer texts x a
unbegun-answer texts x a (inl refused) = inl refused
unbegun-answer texts x a (inr (plan, planned, refused)) = inr (
  plan,
  planned,
  table-more (λ (classes : List Class) (b : TextStatus). ⊥) (λ (classes : List Class) (b : TextStatus). (lines : List ℕ)
      × BehindRegions (setting_of texts Regions plan classes) (λ regions. IsPointsAnswer (country_of classes regions) (points_of x.points)) lines b)
      (rows_of classes_table x.files.classes) a (λ classes never. absurd never) refused,
)

-- so it is of a step that stops, and no yes
pub unbegun_is_answer : (texts : List ℕ → Texts) (x : LocateCountryInputs) (stop : Stop) (a : Answer) → stop ≡ Refused a → IsRefusedAs (IsUnbegun x.files) stop
    → AnswersLocateCountry texts x (a.text.items, a.status)
unbegun_is_answer texts x stop a is may =
    let unbegun = subst (IsRefusedAs (IsUnbegun x.files)) is may in
    record {
      answer = unbegun-answer texts x (a.text.items, a.status) unbegun;
      located = λ e. absurd (unbegun_no x.files (a.text.items, a.status) unbegun e);
    }

-- ---- the run
-- where there is no answer, nothing was written
pub unanswered_run : (texts : List ℕ → Texts) (given : PointsIn (Top Known) Known) (x : LocateCountryInputs) (out : Known) (f : Failure) → ArePointsRead AreCountryRead x given
    → IsUnanswered texts x f → RunsLocateCountry texts given out out (Err f)
unanswered_run texts given x out f told h = runs_stopped _ _ out f (stops h)
  where
    stops : IsUnanswered texts x f
        → AreUnread (points_named top_named given) f ⊎ OfRead (ArePointsRead AreCountryRead) given (λ y. (lines : List ℕ) × StopsCountry texts Regions y.files lines f)
    stops (inl memory) = inl (inl (inl memory))
    stops (inr stopped) = inr (x, told, stopped)

-- an answer is written, or a beginning of it
pub answered_run : (texts : List ℕ → Texts) (given : PointsIn (Top Known) Known) (x : LocateCountryInputs) (text : List ℕ) (status : ℕ) (old new : Known) (r : Result ℕ Failure)
    → ArePointsRead AreCountryRead x given → AnswersLocateCountry texts x (text, status)
    → IfOk r (λ s. s ≡ status) → OnOk r (Appends old new text) → IfErr r (λ f. (f ≡ Write Out) × Begins old new text) → RunsLocateCountry texts given old new r
answered_run texts given x text status old new r told answer = runs_written _ _ text status old new r (x, told, answer)

-- where the files before the regions were read, nothing is said of their readers
pub unanswered_untouched : {R : Type 0} (old new : PointsIn (Top R) R) (texts : List ℕ → Texts) (x : LocateCountryInputs) (f : Failure) → IsUnanswered texts x f
    → AreUntouched (points_named top_named old) (points_named top_named new) f
unanswered_untouched old new texts x f h = untouched_unnamed (points_named top_named old) (points_named top_named new) f refl (none h)
  where
    none : IsUnanswered texts x f → NamesNone f
    none (inl memory) = memory_names_none f memory
    none (inr (lines, stopped)) = country_names_none texts Regions x.files lines f stopped
