-- The answer to a country: text and status, of the bytes of its files.
use Rattle.std.specs.Prelude.{◌≡◌, ◌⊎◌, ◌++◌, ◌∷◌, [], ℕ, List, Some, length}
use Rattle.lpis_points.specs.declared.boxes.Box4.{Box4}
use Rattle.lpis_tables.specs.declared.class.Class.{Class}
use Rattle.lpis_tables.specs.Classes.{classes_table}
use Rattle.lpis_tables.specs.Faults.{rows_of}
use Rattle.lpis_release.specs.Release.{Contents}
use Rattle.lpis_run.specs.CheckAnswer.{Answer, Inputs, IsProvedOf, IsRefusal}
use Rattle.lpis_run.specs.CheckAnswer.{IsTableAnswer}
use Rattle.lpis_run.specs.Refusals.{line_in_region}
use Rattle.lpis_run.specs.declared.detail.Detail.{Detail}
use Rattle.lpis_run.specs.Status.{done, refused, unreadable}
use Rattle.lpis_country.specs.Country.{country_of}
use Rattle.lpis_country.specs.Tiling.{frame, rectangles}
use Rattle.lpis_country.specs.CountryText.{IsCountryText}
use Rattle.lpis_country.specs.Faults.{plan_fault}
use Rattle.lpis_country.specs.Tree.{Tree, folders}
use Rattle.lpis_country_seam.specs.declared.fault.SeamFault.{SeamFault}
use Rattle.lpis_country_seam.specs.Faults.{IsFirstSeamFault, seam_faults}
use Rattle.lpis_run_country.specs.CountryLines.{country_lines, plan_refusal_text, region_report}
use Rattle.lpis_run_country.specs.CountryLines.{seam_refusal_text}
use Rattle.lpis_run_country.specs.Regions.{CountryInputs, IsCountry, IsFolderRead, Texts}

-- what is known before the first region is read: the bytes of each folder's files, as far as they
-- are known; what is to be printed; the folders and tiles of the plan; the table of classes
pub record Setting : Type 0 where
  pub texts : List ℕ → Texts
  pub detail : Detail
  pub names : List (List ℕ)
  pub tiles : List Box4
  pub classes : List Class

abbrev pub setting_of : (List ℕ → Texts) → Detail → Tree → List Class → Setting
setting_of texts detail plan classes = record {
  texts = texts;
  detail = detail;
  names = folders plan;
  tiles = rectangles plan frame;
  classes = classes;
}

-- ---- a region
-- the inputs say a region that fits those before it
pub record Passes (s : Setting) (before : List Contents) (name : List ℕ) (r : Contents) : Type 0
  where
    pub inputs : Inputs
    pub told : IsFolderRead inputs (s.texts name)
    pub said : IsProvedOf inputs r
    pub fits : seam_faults s.tiles s.classes before r ≡ []

-- a region does not fit those before it: the line of its first fault
abbrev pub IsMisfit : Setting → List Contents → List ℕ → Contents → Answer → Type 0
IsMisfit s before name r a =
    (fault : SeamFault) × IsFirstSeamFault (seam_faults s.tiles s.classes before r) fault
    × (a ≡ (seam_refusal_text s.names name fault, refused))

-- the region of a folder is refused by `check`: its line with the region at the end, and its
-- status; or it is a sound map, and does not fit those before it
abbrev pub IsRefusedRegion : Setting → List Contents → List ℕ → Answer → Type 0
IsRefusedRegion s before name a = (x : Inputs) × IsFolderRead x (s.texts name)
    × (((b : Answer) × IsRefusal x b × (a ≡ (line_in_region b.0 name, b.1)))
    ⊎ ((r : Contents) × IsProvedOf x r × IsMisfit s before name r a))

-- the regions of these folders passed one after the other, and this was printed of them
pub data HavePassed (s : Setting) : List (List ℕ) → List Contents → List ℕ → Type 0 where
  None : HavePassed s [] [] []
  Next : (names : List (List ℕ)) (before : List Contents) (text : List ℕ) (name : List ℕ)
      (r : Contents) → HavePassed s names before text → Passes s before name r
      → HavePassed s (names ++ name ∷ []) (before ++ r ∷ [])
      (text ++ region_report s.detail (country_of s.classes before) name r)

-- what follows the regions that passed: where no folder is left an end, of these regions, else the
-- line of the next region, which is refused
abbrev pub IsBehind : Setting → (List Contents → Answer → Type 0) → List Contents → List (List ℕ)
    → Answer → Type 0
IsBehind s IsEnd regions [] a = IsEnd regions a
IsBehind s IsEnd regions (name ∷ left) a = IsRefusedRegion s regions name a

-- regions passed, and this is what they leave: their lines, and the folders behind them
pub record IsReachedBy (s : Setting) (regions : List Contents) (text : List ℕ)
    (left : List (List ℕ)) : Type 0 where
  pub passed : List (List ℕ)
  pub all : s.names ≡ passed ++ left
  pub have_passed : HavePassed s passed regions text

-- regions passed, with these lines, and this is what follows them
pub record BehindRegions (s : Setting) (IsEnd : List Contents → Answer → Type 0)
    (lines : List ℕ) (a : Answer) : Type 0 where
  pub regions : List Contents
  pub left : List (List ℕ)
  pub reached : IsReachedBy s regions lines left
  pub follows : IsBehind s IsEnd regions left a

-- the lines of the regions up to the first that is refused, and what follows them
pub record AfterRegions (s : Setting) (IsEnd : List Contents → Answer → Type 0) (a : Answer)
    : Type 0 where
  pub text : List ℕ
  pub end : Answer
  pub behind : BehindRegions s IsEnd text end
  pub is : a ≡ (text ++ end.0, end.1)

-- at the end the country's line and the yes
abbrev pub IsRegionsAnswer : Setting → Answer → Type 0
IsRegionsAnswer s = AfterRegions s
    (λ regions a. a ≡ (country_lines (length regions) (country_of s.classes regions), done))

-- ---- the country
-- of the files at the top: the line at which `country.txt` is none, else that of the first fault of
-- `classes.csv`, or the answer to a plan and classes
abbrev pub IsTopAnswer : (Tree → List Class → Answer → Type 0) → CountryInputs → Answer → Type 0
IsTopAnswer IsNext x a =
    ((line : ℕ) × (plan_fault x.plan ≡ Some line) × (a ≡ (plan_refusal_text line, unreadable)))
    ⊎ ((plan : Tree) × IsCountryText x.plan plan
    × IsTableAnswer (IsNext plan) (rows_of classes_table x.classes) a)

-- the answer to a country: of these files, and then of the regions in the order of the plan
abbrev pub IsCountryAnswer : (List ℕ → Texts) → Detail → CountryInputs → Answer → Type 0
IsCountryAnswer texts detail =
    IsTopAnswer (λ plan classes. IsRegionsAnswer (setting_of texts detail plan classes))

-- the same, where a yes comes only for a country whose regions make up a sound map
pub record AnswersCountry (texts : List ℕ → Texts) (detail : Detail) (x : CountryInputs)
    (a : Answer) : Type 0 where
  pub answer : IsCountryAnswer texts detail x a
  pub proved : a.1 ≡ done → IsCountry texts x
