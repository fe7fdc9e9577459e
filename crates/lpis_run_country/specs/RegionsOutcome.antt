-- What a run over the regions of what was begun came to.
use Rattle.std.specs.Prelude.{◌≡◌, ◌≢◌, ℕ, List, Option, IfErr, IfOk, Result, length, map}
use Rattle.std.specs.Io.KnownBytes.{Appends}
use Rattle.std.specs.String.{string_bytes}
use Rattle.lpis_release.specs.Release.{Contents}
use Rattle.lpis_checker.specs.SoundMap.{IsSoundMap}
use Rattle.lpis_run.specs.Status.{done}
use Rattle.lpis_run.specs.Run.{BreaksOffIn}
use Rattle.lpis_run.specs.CheckAnswer.{Answer}
use Rattle.lpis_country.specs.Country.{country_of}
use Rattle.lpis_country.specs.Union.{IsUnion}
use Rattle.lpis_country_seam.specs.Open.{AreJoined}
use Rattle.lpis_run.specs.declared.failure.Failure.{Failure}
use Rattle.lpis_run_country.specs.declared.joining.JoinedCountry.{JoinedCountry}
use Rattle.lpis_run_country.specs.declared.joining.Joining.{Joining}
use Rattle.lpis_run_country.specs.declared.joining.Joining.TheVariants.{Joined, Refused}
use Rattle.lpis_run_country.specs.CountryAnswer.{HavePassed, IsRegionsAnswer, Setting}
use Rattle.lpis_run_country.specs.CountryFailures.{StopsRegions}
use Rattle.lpis_run_country.specs.CountryLines.{country_lines}

-- ---- an end
-- a run over regions answered with this status
abbrev pub RegionsEnd : Setting → Option (List ℕ) → Option (List ℕ) → ℕ → Type 0
RegionsEnd s old new status =
    (text : List ℕ) × IsRegionsAnswer s (text, status) × Appends old new text

-- the regions of all folders passed, and this was printed of them: their country is their union,
-- and a sound map
pub record JoinsAll (s : Setting) (regions : List Contents) (lines : List ℕ) : Type 0 where
  pub have_passed : HavePassed s s.names regions lines
  pub joined : AreJoined s.tiles s.classes regions
  pub union : IsUnion regions (country_of s.classes regions)
  pub sound : IsSoundMap (country_of s.classes regions)

-- the country of these regions: the names of their folders, its parcels, and the text of its line
-- and the yes
pub record IsCountryJoined (s : Setting) (regions : List Contents) (j : JoinedCountry) : Type 0
  where
    pub names_are : map string_bytes j.names.items ≡ s.names
    pub parcels_are : j.parcels ≡ (country_of s.classes regions).parcels
    pub text_is : j.text.items ≡ country_lines (length regions) (country_of s.classes regions)

-- all regions passed, and their lines were written; or one was refused, and its line was too
abbrev pub RegionsJoin : Setting → Option (List ℕ) → Option (List ℕ) → Joining → Type 0
RegionsJoin s old new (Joined j) =
    (regions : List Contents) × (lines : List ℕ) × JoinsAll s regions lines
    × Appends old new lines × IsCountryJoined s regions j
RegionsJoin s old new (Refused status) = RegionsEnd s old new status × (status ≢ done)

-- ---- no end
-- the lines up to that of the first region that is refused
abbrev pub IsRegionsRefusal : Setting → Answer → Type 0
IsRegionsRefusal s a = IsRegionsAnswer s a × (a.1 ≢ done)

-- a run up to the last region broke off
abbrev pub RegionsStop : Setting → Option (List ℕ) → Option (List ℕ) → Failure → Type 0
RegionsStop s = BreaksOffIn (StopsRegions s) (IsRegionsRefusal s)

-- ---- the whole
-- how a run over regions ends that writes their lines and hands their country over
pub record JoinsRegions (s : Setting) (old new : Option (List ℕ)) (result : Result Joining Failure)
    : Type 0 where
  pub joins : IfOk result (RegionsJoin s old new)
  pub failure : IfErr result (RegionsStop s old new)
