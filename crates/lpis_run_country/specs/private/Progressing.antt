-- How far a run over regions has come, and what the next region came to.
use Rattle.std.specs.Prelude.{◌≡◌, ◌≢◌, ◌≤◌, ◌+◌, ◌*◌, ◌⊎◌, ◌++◌, ◌∷◌, [], ℕ, Bool, List, map}
use Rattle.std.specs.Prelude.{Option, Some, None, Result, Ok, Err, String, Vec, true, false, length}
use Rattle.std.specs.Prelude.{take}
use Rattle.std.specs.String.{string_bytes}
use Rattle.std.specs.Io.KnownBytes.{Appends, Keeps}
use Rattle.std.specs.declared.alloc.Global.{Global}
use Rattle.lpis_tables.specs.Table.{most_rows}
use Rattle.lpis_release.specs.Release.{Contents}
use Rattle.lpis_release.specs.declared.parcel.Parcel.{Parcel}
use Rattle.lpis_run.specs.CheckAnswer.{Answer}
use Rattle.lpis_run.specs.Run.{RunsOn}
use Rattle.lpis_run.specs.declared.detail.Detail.{Detail}
use Rattle.lpis_run.specs.declared.failure.Failure.{Failure}
use Rattle.lpis_run.specs.declared.failure.Failure.TheVariants.{Memory, Read, Write}
use Rattle.lpis_run.specs.declared.failure.Name.TheVariants.{Out}
use Rattle.lpis_run.specs.Status.{done}
use Rattle.lpis_run.specs.Stops.{IsRefusedAs}
use Rattle.lpis_run.specs.Streams.{Begins}
use Rattle.lpis_run.specs.declared.stop.Stop.{Stop}
use Rattle.lpis_country.specs.Country.{country_of}
use Rattle.lpis_country_seam.specs.Faults.{seam_faults}
use Rattle.lpis_country_seam.specs.Open.{HasNext, IsSeamOf}
use Rattle.lpis_run_country.specs.declared.gathering.Gathered.{Gathered}
use Rattle.lpis_run_country.specs.declared.gathering.Gathered.TheVariants.{Nothing, Parcels}
use Rattle.lpis_run_country.specs.declared.progress.Progress.{Progress}
use Rattle.lpis_run_country.specs.Beginning.{IsPlanned}
use Rattle.lpis_run_country.specs.CountryAnswer.{AnswersCountry, HavePassed, IsMisfit}
use Rattle.lpis_run_country.specs.CountryAnswer.{IsRefusedRegion, IsRegionsAnswer}
use Rattle.lpis_run_country.specs.CountryAnswer.{Passes, Setting}
use Rattle.lpis_run_country.specs.CountryFailures.{IsReadOf, IsUnreadFolder, StopsCountry}
use Rattle.lpis_run_country.specs.CountryFailures.{StopsRegions}
use Rattle.lpis_run_country.specs.CountryLines.{region_report}
use Rattle.lpis_run_country.specs.Regions.{CountryInputs, Texts}
use Rattle.lpis_run_country.specs.RegionsOutcome.{JoinsAll, RegionsEnd}
use Rattle.lpis_run_country.specs.private.Totals.{AreTotalsOf, most_parcels}

-- parcels are wanted
abbrev pub gathers : Gathered → Bool
gathers Nothing = false
gathers (Parcels gathered) = true

-- these were gathered, or none are wanted
abbrev pub HasGathered : List Parcel → Gathered → Type 0
HasGathered ks Nothing = Unit {0}
HasGathered ks (Parcels gathered) = gathered.items ≡ ks

-- the parcels that were gathered
abbrev pub gathered_in : Gathered → List Parcel
gathered_in Nothing = []
gathered_in (Parcels gathered) = gathered.items

-- the setting of a run over the regions of these names that has come so far
abbrev pub setting_at : (List ℕ → Texts) → Detail → List (String Global) → Progress → Setting
setting_at texts detail names p = record {
  texts = texts;
  detail = detail;
  names = map string_bytes names;
  tiles = p.seam.tiles.items;
  classes = p.seam.classes.items;
}

-- these regions passed
pub record IsAt (s : Setting) (before : List Contents) (p : Progress) : Type 0 where
  pub seam : IsSeamOf s.tiles s.classes before p.seam
  pub totals : AreTotalsOf (country_of s.classes before) (country_of s.classes before).parcels
      p.totals
  pub few : p.totals.parcels ≤ most_rows * length before
  pub gathered : HasGathered (country_of s.classes before).parcels p.gathered

-- this holds whatever regions passed
abbrev pub AfterAny : Setting → Progress → (Setting → List Contents → Type 0) → Type 0
AfterAny s p Holds = (before : List Contents) → IsAt s before p → Holds s before

-- some regions passed, there is a tile for the next one, and its parcels can be counted
pub record IsReady (p : Progress) : Type 0 where
  pub setting : Setting
  pub before : List Contents
  pub at : IsAt setting before p
  pub next : HasNext p.seam
  pub room : p.totals.parcels + most_rows ≤ most_parcels

-- such a region came to this: the text of one that passes, or this answer
abbrev pub FollowsAs : Setting → List Contents → List ℕ → Contents → Progress
    → Result (Vec ℕ Global) Stop → Type 0
FollowsAs s before name r p (Ok text) =
    (seam_faults s.tiles s.classes before r ≡ [])
    × (text.items ≡ region_report s.detail (country_of s.classes before) name r)
    × IsAt s (before ++ r ∷ []) p
FollowsAs s before name r p (Err stop) = IsRefusedAs (IsMisfit s before name r) stop

-- the region of a folder came to this
abbrev pub IsVerdict : Setting → List Contents → List ℕ → Progress → Result (Vec ℕ Global) Stop
    → Type 0
IsVerdict s before name p (Ok text) =
    (r : Contents) × Passes s before name r
    × (text.items ≡ region_report s.detail (country_of s.classes before) name r)
    × IsAt s (before ++ r ∷ []) p
IsVerdict s before name p (Err stop) = IsRefusedAs (IsRefusedRegion s before name) stop

-- the text of the verdict on the region of a folder
abbrev pub IsVerdictText : Setting → List Contents → List ℕ → List ℕ → Type 0
IsVerdictText s before name text =
    ((r : Contents) × Passes s before name r
    × (text ≡ region_report s.detail (country_of s.classes before) name r))
    ⊎ ((status : ℕ) × IsRefusedRegion s before name (text, status))

-- the verdict was written: none, where the region passed, or the status of its refusal
abbrev pub IsWritten : Setting → List Contents → List ℕ → Progress → Option (List ℕ)
    → Option (List ℕ) → Option ℕ → Type 0
IsWritten s before name p old new None =
    (r : Contents) × Passes s before name r
    × Appends old new (region_report s.detail (country_of s.classes before) name r)
    × IsAt s (before ++ r ∷ []) p
IsWritten s before name p old new (Some status) =
    (text : List ℕ) × IsRefusedRegion s before name (text, status) × Appends old new text

-- there is no verdict; or the output failed after a beginning of it
abbrev pub IsUnwritten : Setting → List Contents → List ℕ → Option (List ℕ) → Option (List ℕ)
    → Failure → Type 0
IsUnwritten s before name old new failure =
    (IsUnreadFolder (s.texts name) failure × Keeps old new)
    ⊎ ((failure ≡ Write Out) × ((text : List ℕ) × IsVerdictText s before name text
    × Begins old new text))

-- this text was written, with a yes
pub record IsFinished (text : List ℕ) (old new : Option (List ℕ)) (status : ℕ) : Type 0 where
  pub done_is : status ≡ done
  pub written : Appends old new text

-- it was not, or not all of it
abbrev pub IsUnfinished : List ℕ → Option (List ℕ) → Option (List ℕ) → Failure → Type 0
IsUnfinished text old new failure =
    ((failure ≡ Memory) × Keeps old new) ⊎ ((failure ≡ Write Out) × Begins old new text)

-- a failure, and the folder of this name where its file was not read
abbrev pub IsFailureOf : Failure → List ℕ → Failure → Type 0
IsFailureOf (Read file) name f = IsReadOf file name f
IsFailureOf failure name f = (f ≡ failure)

-- the region of the next folder, of this name, was not read, or its verdict not wholly written
abbrev pub IsBrokenOff : Setting → List Contents → List ℕ → Option (List ℕ) → Option (List ℕ)
    → Failure → Type 0
IsBrokenOff s before name old new f =
    (failure : Failure) × IsUnwritten s before name old new failure × IsFailureOf failure name f

-- what a run over all regions begins with
pub record IsStart (s : Setting) (p : Progress) : Type 0 where
  pub at : IsAt s [] p
  pub planned : IsPlanned s.names s.tiles

-- the regions before these folders passed, and this is what they left
pub record IsHere (s : Setting) (p : Progress) (n : ℕ) (old new : Option (List ℕ)) : Type 0 where
  pub before : List Contents
  pub text : List ℕ
  pub have_passed : HavePassed s (take n s.names) before text
  pub written : Appends old new text
  pub at : IsAt s before p
  pub number : length before ≡ n

-- the regions of all folders passed, and this is what they left
pub record HasPassedAll (s : Setting) (p : Progress) (old new : Option (List ℕ)) : Type 0 where
  pub regions : List Contents
  pub lines : List ℕ
  pub have_passed : HavePassed s s.names regions lines
  pub at : IsAt s regions p
  pub written : Appends old new lines

-- so it is; or one was refused, with this status
abbrev pub RegionsPass : Setting → Progress → Option (List ℕ) → Option (List ℕ) → Option ℕ → Type 0
RegionsPass s p old new None = HasPassedAll s p old new
RegionsPass s p old new (Some status) = RegionsEnd s old new status × (status ≢ done)

-- the answer to the regions, with a yes only where all passed
pub record AnswersRegions (s : Setting) (a : Answer) : Type 0 where
  pub answer : IsRegionsAnswer s a
  pub all : a.1 ≡ done → (regions : List Contents) × (lines : List ℕ) × JoinsAll s regions lines

-- a run over regions
abbrev pub RunsRegions : Setting → Option (List ℕ) → Option (List ℕ) → Result ℕ Failure → Type 0
RunsRegions s = RunsOn (λ f. ⊥) (StopsRegions s) (AnswersRegions s)

-- a run over the regions of what was begun of these inputs
abbrev pub RunsBegun : (List ℕ → Texts) → Detail → CountryInputs → Option (List ℕ)
    → Option (List ℕ) → Result ℕ Failure → Type 0
RunsBegun texts detail x =
    RunsOn (λ f. ⊥) (StopsCountry texts detail x) (AnswersCountry texts detail x)
