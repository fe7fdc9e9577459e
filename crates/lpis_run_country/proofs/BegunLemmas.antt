-- The run over the regions of a plan, as that over a country.
use Rattle.std.proofs.Common.{◌≡◌, ◌≤◌, ◌∙◌, ◌∷◌, [], refl, sym, ap, ap₂, subst, arith, inl, inr, IfErr, IfOk, OnOk, ℕ, List, Option, Result, Err, String, length, map}
use Rattle.std.proofs.lemmas.List.{length-map}
use Rattle.std.proofs.lemmas.Result.{IfErr-weaker}
use Rattle.std.specs.String.{string_bytes}
use Rattle.std.specs.declared.alloc.Global.{Global}
use Rattle.lpis_points.specs.declared.boxes.Box4.{Box4}
use Rattle.lpis_tables.specs.Classes.{classes_table}
use Rattle.lpis_tables.specs.Faults.{rows_of}
use Rattle.lpis_tables.specs.declared.class.Class.{Class}
use Rattle.lpis_tables.specs.declared.fault.TableFault.{TableFault}
use Rattle.lpis_release.specs.Release.{Contents}
use Rattle.lpis_run.specs.CheckAnswer.{Answer, IsTableAnswer}
use Rattle.lpis_run.proofs.Shared.{NamesNone, memory_names_none, runs_on_more, runs_on_stopped, runs_on_unnamed, runs_on_written, table-more, table-status, untouched_unnamed}
use Rattle.lpis_run.specs.Failures.{AreUnread, AreUntouched}
use Rattle.lpis_run.specs.Folders.{top_named}
use Rattle.lpis_run.specs.Streams.{Begins, Known}
use Rattle.lpis_run.specs.declared.folder.Top.{Top}
use Rattle.lpis_run.specs.declared.failure.Failure.TheVariants.{Write}
use Rattle.lpis_run.specs.declared.failure.Name.{Name}
use Rattle.lpis_run.specs.declared.failure.Name.TheVariants.{Out}
use Rattle.std.specs.Io.KnownBytes.{Appends}
use Rattle.lpis_run.specs.declared.detail.Detail.{Detail}
use Rattle.lpis_run.specs.Status.{done}
use Rattle.lpis_country.specs.Plans.{IsPlan, PlanParts}
use Rattle.lpis_country.specs.Tree.{folders}
use Rattle.lpis_run.specs.declared.failure.Failure.{Failure}
use Rattle.lpis_run_country.specs.CountryAnswer.{AnswersCountry, IsCountryAnswer, IsRegionsAnswer, Setting, setting_of}
use Rattle.lpis_run_country.specs.CountryFailures.{IsReadOf, IsStoppedBefore, StopsCountry, StopsRegions}
use Rattle.lpis_run_country.specs.CountryRun.{RunsCountry}
use Rattle.lpis_run.specs.Run.{OfRead}
use Rattle.lpis_run_country.specs.Regions.{AreCountryRead, CountryInputs, IsCountry, Texts}
use Rattle.lpis_run_country.specs.Beginning.{BegunParts, IsBegun, IsPlanned, IsUnbegun, setting_in}
use Rattle.lpis_run_country.specs.RegionsOutcome.{JoinsAll}
use Rattle.lpis_run_country.specs.private.Progressing.{AnswersRegions, RunsBegun, RunsRegions}
use Rattle.lpis_run_country.proofs.PassedLemmas.{passed_regions}

-- the status of an input that is not read is none of a yes
pub two_is_not_done : (n : ℕ) → n ≡ 2 → n ≡ 0 → ⊥
two_is_not_done n two zero = omega arith

-- an answer to inputs that have a fault before the first region is one to the country
pub unbegun_answer : (texts : List ℕ → Texts) (detail : Detail) (x : CountryInputs) (a : Answer) → IsUnbegun x a → IsCountryAnswer texts detail x a
unbegun_answer texts detail x a (inl refused) = inl refused
unbegun_answer texts detail x a (inr (plan, planned, refused)) = inr (
  plan,
  planned,
  table-more (λ (classes : List Class) (b : Answer). ⊥) (λ (classes : List Class). IsRegionsAnswer (setting_of texts detail plan classes)) (rows_of classes_table x.classes) a
      (λ classes no. absurd no) refused,
)

-- and no yes
pub unbegun_no : (x : CountryInputs) (a : Answer) → IsUnbegun x a → a.1 ≡ done → ⊥
unbegun_no x a (inl (line, fault, is)) e = two_is_not_done a.1 (ap (λ (b : Answer). b.1) is) e
unbegun_no x a (inr (plan, planned, refused)) e =
    two_is_not_done a.1 (table-status (λ (classes : List Class) (b : Answer). ⊥) (rows_of classes_table x.classes) a (λ classes no. absurd no) refused) e

-- ---- what was begun
-- the names and the tiles of a plan
pub planned : (p : PlanParts) (names : List (String Global)) (tiles : List Box4) → IsPlan p → map string_bytes names ≡ p.names → tiles ≡ p.tiles → length names ≡ length tiles
    → IsPlanned (map string_bytes names) tiles
planned p names tiles (t, is) named tiled same = record {
  tiling = t;
  tiles_of = tiled ∙ is.tiles;
  as_many = length-map names string_bytes ∙ same;
  few = subst (λ (ks : List (List ℕ)). length ks ≤ 10000) (sym (named ∙ is.names)) is.fits.few;
}

-- the setting of what was begun is that of its plan
pub setting_begun : (texts : List ℕ → Texts) (detail : Detail) (x : CountryInputs) (b : BegunParts) (begun : IsBegun x b) → setting_in texts detail b ≡ setting_of texts detail begun.plan b.classes
setting_begun texts detail x b begun =
    ap₂ (λ (names : List (List ℕ)) (tiles : List Box4). setting_in texts detail (record { names = names; tiles = tiles; classes = b.classes })) begun.names_are begun.tiles_are

-- ---- the country
-- the regions of all folders make up a country
all-country : (texts : List ℕ → Texts) (detail : Detail) (x : CountryInputs) (b : BegunParts) (begun : IsBegun x b) (all : List Contents) (lines : List ℕ)
    → JoinsAll (setting_of texts detail begun.plan b.classes) all lines → IsCountry texts x
all-country texts detail x b begun all lines join = record {
  plan = begun.plan;
  text = begun.text;
  classes = b.classes;
  table = begun.table;
  regions = all;
  united = record {
    of_folders = passed_regions (setting_of texts detail begun.plan b.classes) (folders begun.plan) all lines join.have_passed;
    same = join.joined.classes_are;
    union = join.union;
    sound = join.sound;
  };
}

-- the answer to the regions is that to the country
whole-answer : (texts : List ℕ → Texts) (detail : Detail) (x : CountryInputs) (b : BegunParts) (begun : IsBegun x b) (a : Answer) → IsRegionsAnswer (setting_of texts detail begun.plan b.classes) a
    → IsCountryAnswer texts detail x a
whole-answer texts detail x b begun a h = inr (
  begun.plan,
  begun.text,
  subst (λ (said : Result (List Class) TableFault). IsTableAnswer (λ classes. IsRegionsAnswer (setting_of texts detail begun.plan classes)) said a) (sym begun.table) h,
)

-- what stops a run over the regions of what was begun stops the run over the country
country-stops : (texts : List ℕ → Texts) (detail : Detail) (x : CountryInputs) (b : BegunParts) (begun : IsBegun x b) (lines : List ℕ) (f : Failure)
    → StopsRegions (setting_of texts detail begun.plan b.classes) lines f → StopsCountry texts detail x lines f
country-stops texts detail x b begun lines f stopped = (begun.plan, b.classes, begun.text, begun.table, stopped)

-- the answer to the regions, with a yes only where all passed, is that to the country
answers-country : (texts : List ℕ → Texts) (detail : Detail) (x : CountryInputs) (b : BegunParts) (begun : IsBegun x b) (a : Answer)
    → AnswersRegions (setting_of texts detail begun.plan b.classes) a → AnswersCountry texts detail x a
answers-country texts detail x b begun a h = record {
  answer = whole-answer texts detail x b begun a h.answer;
  proved = λ e. let (all, lines, join) = h.all e in all-country texts detail x b begun all lines join;
}

-- a run over the regions of what was begun is that over the country
pub begun_run : (texts : List ℕ → Texts) (detail : Detail) (x : CountryInputs) (b : BegunParts) (begun : IsBegun x b) (old new : Option (List ℕ)) (r : Result ℕ Failure)
    → RunsRegions (setting_in texts detail b) old new r → RunsBegun texts detail x old new r
begun_run texts detail x b begun old new r run =
    let s = setting_of texts detail begun.plan b.classes in
    runs_on_more (λ f. ⊥) (λ f. ⊥) (StopsRegions s) (StopsCountry texts detail x) (AnswersRegions s)
    (AnswersCountry texts detail x) old new r (λ f no. no) (country-stops texts detail x b begun) (answers-country texts detail x b begun)
    (subst (λ t. RunsRegions t old new r) (setting_begun texts detail x b begun) run)

-- a fault before the first region is answered
pub unbegun_run : (texts : List ℕ → Texts) (detail : Detail) (x : CountryInputs) (a : Answer) (old new : Option (List ℕ)) (r : Result ℕ Failure) → IsUnbegun x a → IfOk r (λ status. status ≡ a.1)
    → OnOk r (Appends old new a.0) → IfErr r (λ f. (f ≡ Write Out) × Begins old new a.0) → RunsBegun texts detail x old new r
unbegun_run texts detail x a old new r unbegun =
    runs_on_written (λ f. ⊥) (StopsCountry texts detail x) (AnswersCountry texts detail x) a.0 a.1 old new r
    (record { answer = unbegun_answer texts detail x a unbegun; proved = λ e. absurd (unbegun_no x a unbegun e) })

-- and of the bytes that two readers gave
pub read_run : (texts : List ℕ → Texts) (detail : Detail) (given : Top Known) (x : CountryInputs) (old new : Known) (r : Result ℕ Failure) → AreCountryRead x given
    → RunsBegun texts detail x old new r → RunsCountry texts detail given old new r
read_run texts detail given x old new r read =
    runs_on_more (λ f. ⊥) (AreUnread (top_named given)) (StopsCountry texts detail x) (λ lines f. OfRead AreCountryRead given (λ y. StopsCountry texts detail y lines f))
    (AnswersCountry texts detail x) (λ a. OfRead AreCountryRead given (λ y. AnswersCountry texts detail y a)) old new r (λ f no. absurd no) (λ lines f stops. (x, read, stops))
    (λ a answers. (x, read, answers))

-- where a file at the top is not read, nothing was written
pub stopped_before : (texts : List ℕ → Texts) (detail : Detail) (given : Top Known) (out : Known) (f : Failure) → AreUnread (top_named given) f → RunsCountry texts detail given out out (Err f)
stopped_before texts detail given out f unread = runs_on_stopped (AreUnread (top_named given)) (λ lines g. OfRead AreCountryRead given (λ y. StopsCountry texts detail y lines g))
    (λ a. OfRead AreCountryRead given (λ y. AnswersCountry texts detail y a)) out f unread

-- ---- readers behind the one that a failure names
-- a file of a region is named with the region
pub read_of_names_none : (file : Name) (name : List ℕ) (f : Failure) → IsReadOf file name f → NamesNone f
read_of_names_none file name f (region, called, of) top is = cc (of, is)

before_names_none : (texts : List ℕ → Texts) (left : List (List ℕ)) (f : Failure) → IsStoppedBefore texts left f → NamesNone f
before_names_none texts [] f memory = memory_names_none f memory
before_names_none texts (name ∷ left) f (inl memory) = memory_names_none f memory
before_names_none texts (name ∷ left) f (inr (file, unread, of)) = read_of_names_none file name f of

-- what stops a run over regions names no file at the top
pub regions_name_none : (s : Setting) (lines : List ℕ) (f : Failure) → StopsRegions s lines f → NamesNone f
regions_name_none s lines f (regions, left, reached, stopped) = before_names_none s.texts left f stopped

-- nor does what stops the run over a country
pub country_names_none : (texts : List ℕ → Texts) (detail : Detail) (x : CountryInputs) (lines : List ℕ) (f : Failure) → StopsCountry texts detail x lines f → NamesNone f
country_names_none texts detail x lines f (plan, classes, planned, table, stopped) = regions_name_none (setting_of texts detail plan classes) lines f stopped

-- where they were read, nothing is said of their readers
pub begun_untouched : {R : Type 0} (old new : Top R) (texts : List ℕ → Texts) (detail : Detail) (x : CountryInputs) (before after : Option (List ℕ)) (r : Result ℕ Failure)
    → RunsBegun texts detail x before after r → IfErr r (AreUntouched (top_named old) (top_named new))
begun_untouched old new texts detail x before after r run =
    IfErr-weaker r NamesNone _ (λ f none. untouched_unnamed (top_named old) (top_named new) f refl none)
    (runs_on_unnamed (λ f. ⊥) (StopsCountry texts detail x) (AnswersCountry texts detail x) before after r (λ f no. absurd no) (country_names_none texts detail x) run)
