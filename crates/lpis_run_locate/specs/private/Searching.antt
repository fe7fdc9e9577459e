-- How far a search through regions has come, and what the next region came to.
use Rattle.std.specs.Prelude.{◌≡◌, ◌⊎◌, ◌++◌, ◌∷◌, [], ℕ, List, Option, Some, String, None}
use Rattle.std.specs.Prelude.{length, map, take}
use Rattle.std.specs.String.{string_bytes}
use Rattle.std.specs.declared.alloc.Global.{Global}
use Rattle.lpis_release.specs.Release.{Contents}
use Rattle.lpis_run.specs.declared.answer.Answer.{Answer as Printed}
use Rattle.lpis_run.specs.declared.failure.Failure.TheVariants.{Memory}
use Rattle.lpis_run.specs.declared.detail.Detail.TheVariants.{Regions}
use Rattle.lpis_country_seam.specs.Faults.{seam_faults}
use Rattle.lpis_country_seam.specs.Open.{HasNext, IsSeamOf}
use Rattle.lpis_run_country.specs.CountryAnswer.{HavePassed, IsReachedBy, IsRefusedRegion, Passes}
use Rattle.lpis_run_country.specs.CountryAnswer.{Setting}
use Rattle.lpis_run_country.specs.CountryFailures.{IsStoppedBefore, StopsCountry}
use Rattle.lpis_run_country.specs.Regions.{Texts}
use Rattle.lpis_run.specs.declared.failure.Failure.{Failure}
use Rattle.lpis_run_locate.specs.declared.progress.Progress.{Progress}
use Rattle.lpis_run_locate.specs.private.Found.{IsSearched}
use Rattle.lpis_run_locate.specs.private.LocateRuns.{LocateCountryInputs}

-- these regions passed, and the points of the table were looked for in them
pub record IsAt (s : Setting) (table : List ℕ) (before : List Contents) (p : Progress) : Type 0
  where
    pub seam : IsSeamOf s.tiles s.classes before p.seam
    pub sought : IsSearched table before p.sought

-- the setting of a search in the regions of these names that has come so far
abbrev pub setting_at : (List ℕ → Texts) → List (String Global) → Progress → Setting
setting_at texts names p = record {
  texts = texts;
  detail = Regions;
  names = map string_bytes names;
  tiles = p.seam.tiles.items;
  classes = p.seam.classes.items;
}

-- this holds whatever regions passed, and whatever points were looked for
abbrev pub AfterAny : Setting → Progress → (Setting → List ℕ → List Contents → Type 0) → Type 0
AfterAny s p Holds =
    (table : List ℕ) (before : List Contents) → IsAt s table before p → Holds s table before

-- so it is of some regions, and there is a tile for the next one
pub record IsReady (p : Progress) : Type 0 where
  pub setting : Setting
  pub table : List ℕ
  pub before : List Contents
  pub at : IsAt setting table before p
  pub next : HasNext p.seam

-- a region that is a sound map fits those before it, and the points were looked for in it
abbrev pub Follows : Setting → List ℕ → List Contents → Contents → Progress → Type 0
Follows s table before r p =
    (seam_faults s.tiles s.classes before r ≡ []) × IsAt s table (before ++ r ∷ []) p

-- the region of a folder passed, and the points were looked for in it
abbrev pub HasPassed : Setting → List ℕ → List Contents → List ℕ → Progress → Type 0
HasPassed s table before name p =
    (r : Contents) × Passes s before name r × IsAt s table (before ++ r ∷ []) p

-- the region of a folder came to this: it passed, or the answer that refuses it
abbrev pub IsVerdict : Setting → List ℕ → List Contents → List ℕ → Progress → Option Printed
    → Type 0
IsVerdict s table before name p None = HasPassed s table before name p
IsVerdict s table before name p (Some a) =
    IsRefusedRegion s before name (a.text.items, a.status)

-- what a search through all regions begins with
pub record IsStart (s : Setting) (table : List ℕ) (p : Progress) : Type 0 where
  pub at : IsAt s table [] p
  pub as_many : length s.names ≡ length s.tiles

-- the regions before these folders passed
pub record IsHere (s : Setting) (table : List ℕ) (p : Progress) (n : ℕ) : Type 0 where
  pub before : List Contents
  pub lines : List ℕ
  pub have_passed : HavePassed s (take n s.names) before lines
  pub at : IsAt s table before p
  pub number : length before ≡ n

-- the regions of all folders passed, or one of them is refused
abbrev pub IsOutcome : Setting → List ℕ → Progress → Option Printed → Type 0
IsOutcome s table p None =
    (all : List Contents) × ((lines : List ℕ) × HavePassed s s.names all lines) × IsAt s table all p
IsOutcome s table p (Some a) =
    (regions : List Contents) × (lines : List ℕ) × (name : List ℕ) × (left : List (List ℕ))
    × IsReachedBy s regions lines (name ∷ left)
    × IsRefusedRegion s regions name (a.text.items, a.status)

-- after regions that passed the next folder was not read, or memory ran out
abbrev pub IsStopped : Setting → Failure → Type 0
IsStopped s f =
    (regions : List Contents) × (lines : List ℕ) × (left : List (List ℕ))
    × IsReachedBy s regions lines left × IsStoppedBefore s.texts left f

-- so it is in a country; or memory ran out
abbrev pub IsUnanswered : (List ℕ → Texts) → LocateCountryInputs → Failure → Type 0
IsUnanswered texts x f =
    (f ≡ Memory) ⊎ ((lines : List ℕ) × StopsCountry texts Regions x.files lines f)
