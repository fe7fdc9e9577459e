-- How a search through regions goes on.
use Rattle.std.proofs.Common.{◌≡◌, ◌<◌, ◌≤◌, ◌∙◌, ◌++◌, ◌∷◌, ◌+◌, [], refl, ap, ap₂, subst, arith, inr, ℕ, List, None, Some, String, drop, get_or, length, map}
use Rattle.std.proofs.lemmas.List.{drop_more, length-append, take_all}
use Rattle.std.specs.String.{string_bytes}
use Rattle.std.specs.declared.alloc.Global.{Global}
use Rattle.lpis_points.specs.declared.boxes.Box4.{Box4}
use Rattle.lpis_tables.specs.declared.class.Class.{Class}
use Rattle.lpis_release.specs.Release.{Contents}
use Rattle.lpis_run.proofs.Shared.{refused-more}
use Rattle.lpis_run.specs.CheckAnswer.{Inputs, IsProvedOf}
use Rattle.lpis_run.specs.Stops.{IsRefusedAs}
use Rattle.lpis_run.specs.declared.answer.Answer.{Answer as Printed}
use Rattle.lpis_run.specs.declared.stop.Stop.{Stop}
use Rattle.lpis_run.specs.declared.stop.Stop.TheVariants.{Refused}
use Rattle.lpis_run.specs.declared.failure.Failure.{Failure}
use Rattle.lpis_run.specs.declared.detail.Detail.TheVariants.{Regions}
use Rattle.lpis_country_seam.specs.Open.{IsSeamOf}
use Rattle.lpis_run_country.specs.Beginning.{BegunParts, setting_in}
use Rattle.lpis_run_country.specs.CountryAnswer.{HavePassed, IsMisfit, None as NonePassed, IsReachedBy, IsRefusedRegion, Setting}
use Rattle.lpis_run_country.specs.CountryFailures.{IsStoppedBefore}
use Rattle.lpis_run_country.specs.CountryLines.{region_report}
use Rattle.lpis_run_country.specs.Regions.{IsFolderRead, Texts}
use Rattle.lpis_run_country.proofs.Shared.{passed_more, reached_by}
use Rattle.lpis_country.specs.Country.{country_of}
use Rattle.lpis_run_locate.specs.declared.progress.Progress.{Progress}
use Rattle.lpis_run_locate.specs.private.Found.{IsSearched}
use Rattle.lpis_run_locate.specs.private.Searching.{Follows, HasPassed, IsAt, IsHere, IsOutcome, IsReady, IsStart, IsStopped, IsVerdict, setting_at}

-- ---- the verdict
-- on a region that is a sound map and fits those before it
pub judged : (s : Setting) (table : List ℕ) (before : List Contents) (name : List ℕ) (x : Inputs) (region : Contents) (p : Progress) → IsFolderRead x (s.texts name) → IsProvedOf x region
    → Follows s table before region p → HasPassed s table before name p
judged s table before name x region p told said (fits, at) = (region, record { inputs = x; told = told; said = said; fits = fits }, at)

-- on one that does not fit them
pub seam_refused : (s : Setting) (before : List Contents) (name : List ℕ) (x : Inputs) (region : Contents) (stop : Stop) → IsFolderRead x (s.texts name) → IsProvedOf x region
    → IsRefusedAs (IsMisfit s before name region) stop → IsRefusedAs (IsRefusedRegion s before name) stop
seam_refused s before name x region stop told said h =
    refused-more (IsMisfit s before name region) (IsRefusedRegion s before name) stop
    (λ a misfit. (x, told, inr (region, said, misfit))) h

-- the answer of a step that stopped
pub stopped_with : (s : Setting) (before : List Contents) (name : List ℕ) (stop : Stop) (a : Printed) → stop ≡ Refused a → IsRefusedAs (IsRefusedRegion s before name) stop
    → IsRefusedRegion s before name (a.text.items, a.status)
stopped_with s before name stop a is h = subst (IsRefusedAs (IsRefusedRegion s before name)) is h

-- ---- the start
next-there : (next before n tiles names items : ℕ) → next ≡ before → before ≡ n → items ≡ tiles → names ≡ tiles → n < names → next < items
next-there next before n tiles names items a b c d lt = omega arith

-- at the start no region has passed
pub begun_here : (s : Setting) (table : List ℕ) (p : Progress) → IsStart s table p → IsHere s table p 0
begun_here s table p start = record { before = []; lines = []; have_passed = NonePassed; at = start.at; number = refl }

-- so it is with another table of points
pub started : (s : Setting) (table other : List ℕ) (p : Progress) → IsStart s table p → IsSearched other [] p.sought → IsStart s other p
started s table other p start searched = record { at = record { seam = start.at.seam; sought = searched }; as_many = start.as_many }

-- the next region can be read
pub ready : (s : Setting) (table : List ℕ) (p q : Progress) (n : ℕ) → IsStart s table p → IsHere s table q n → n < length s.names → IsReady q
ready s table p q n start here lt = record {
  setting = s;
  table = table;
  before = here.before;
  at = here.at;
  next = next-there _ _ _ _ _ _ here.at.seam.number here.number (ap length here.at.seam.tiles_are) start.as_many lt;
}

-- ---- the setting
-- it stays the same as regions pass
pub setting_stays : (texts : List ℕ → Texts) (table : List ℕ) (xs ys : List (String Global)) (p q : Progress) (before : List Contents) → xs ≡ ys → IsAt (setting_at texts ys p) table before q
    → setting_at texts xs q ≡ setting_at texts ys p
setting_stays texts table xs ys p q before same at =
    ap (λ ks. setting_at texts ks q) same
    ∙ ap₂ (λ (ts : List Box4) (ks : List Class). setting_in texts Regions (record { names = map string_bytes ys; tiles = ts; classes = ks })) at.seam.tiles_are at.seam.classes_are

-- it begins as that of what was begun
pub setting_begins : (texts : List ℕ → Texts) (b : BegunParts) (names : List (String Global)) (tiles : List Box4) (classes : List Class) (p : Progress) → map string_bytes names ≡ b.names
    → tiles ≡ b.tiles → classes ≡ b.classes → IsSeamOf tiles classes [] p.seam → setting_at texts names p ≡ setting_in texts Regions b
setting_begins texts b names tiles classes p names_are tiles_are classes_are seam =
    ap (λ (ns : List (List ℕ)). setting_in texts Regions (record { names = ns; tiles = p.seam.tiles.items; classes = p.seam.classes.items })) names_are
    ∙ ap₂ (λ (ts : List Box4) (ks : List Class). setting_in texts Regions (record { names = b.names; tiles = ts; classes = ks })) (seam.tiles_are ∙ tiles_are) (seam.classes_are ∙ classes_are)

-- ---- going on
-- a region more
pub goes_on : (s : Setting) (table : List ℕ) (p q : Progress) (n : ℕ) (here : IsHere s table p n) → n < length s.names → IsVerdict s table here.before (get_or s.names n []) q None
    → IsHere s table q (n + 1)
goes_on s table p q n here lt (r, passes, at) = record {
  before = here.before ++ r ∷ [];
  lines = here.lines ++ region_report s.detail (country_of s.classes here.before) (get_or s.names n []) r;
  have_passed = passed_more s n here.before here.lines (get_or s.names n []) r lt refl here.have_passed passes;
  at = at;
  number = length-append here.before (r ∷ []) ∙ ap (λ (k : ℕ). k + 1) here.number;
}

-- what is left behind the regions that passed
left-of : (s : Setting) (table : List ℕ) (p : Progress) (n : ℕ) (here : IsHere s table p n) → n < length s.names
    → IsReachedBy s here.before here.lines (get_or s.names n [] ∷ drop (n + 1) s.names)
left-of s table p n here lt = subst (IsReachedBy s here.before here.lines) (drop_more s.names n [] lt) (reached_by s n here.before here.lines here.have_passed)

-- the next region is refused
pub is_refused : (s : Setting) (table : List ℕ) (p q : Progress) (n : ℕ) (a : Printed) (here : IsHere s table p n) → n < length s.names
    → IsVerdict s table here.before (get_or s.names n []) q (Some a) → IsOutcome s table q (Some a)
is_refused s table p q n a here lt refusal = (here.before, here.lines, get_or s.names n [], drop (n + 1) s.names, left-of s table p n here lt, refusal)

-- the next region is not read
pub is_stopped_at : (s : Setting) (table : List ℕ) (p : Progress) (n : ℕ) (f : Failure) → IsHere s table p n → n < length s.names
    → ((left : List (List ℕ)) → IsStoppedBefore s.texts (get_or s.names n [] ∷ left) f) → IsStopped s f
is_stopped_at s table p n f here lt stopped =
    (here.before, here.lines, get_or s.names n [] ∷ drop (n + 1) s.names, left-of s table p n here lt, stopped (drop (n + 1) s.names))

-- where as many regions passed as there are folders, those of all folders passed
pub all_passed : (s : Setting) (table : List ℕ) (p : Progress) (n : ℕ) → IsHere s table p n → length s.names ≤ n → IsOutcome s table p None
all_passed s table p n here past = (
  here.before,
  (here.lines, subst (λ (ks : List (List ℕ)). HavePassed s ks here.before here.lines) (take_all n s.names past) here.have_passed),
  here.at,
)
