-- The run of `publish-country`: what it ends with, and what it leaves of the register.
use Rattle.std.specs.Prelude.{◌≡◌, ◌≢◌, ◌<◌, ◌≤◌, ◌⊎◌, ◌++◌, ℕ, List, Option, Result}
use Rattle.sqlite_trees.specs.declared.store.Store.{Ghosts}
use Rattle.lpis_release.specs.Release.{Contents}
use Rattle.lpis_cert.specs.declared.part.ExactBlock.{ExactBlock}
use Rattle.lpis_country.specs.Tree.{folders}
use Rattle.lpis_lineage.specs.Lineage.{last_year}
use Rattle.lpis_register.specs.Holdings.{Candidate, Holdings, RegisterState}
use Rattle.lpis_register.specs.declared.fault.PublishFault.TheVariants.{Year}
use Rattle.lpis_run.specs.Run.{OfRead, Runs, RunsOn}
use Rattle.lpis_run.specs.Status.{done, refused}
use Rattle.lpis_run.specs.Failures.{AreUnread}
use Rattle.lpis_run.specs.Folders.{cert_named, top_named}
use Rattle.lpis_run.specs.Streams.{Known}
use Rattle.lpis_run.specs.declared.failure.Failure.{Failure}
use Rattle.lpis_run.specs.declared.failure.Failure.TheVariants.{Memory}
use Rattle.lpis_run.specs.declared.failure.Name.{Name}
use Rattle.lpis_run.specs.declared.folder.Top.{Top}
use Rattle.lpis_run_country.specs.CountryAnswer.{HavePassed}
use Rattle.lpis_run_country.specs.CountryFailures.{OfPlan, StopsRegions}
use Rattle.lpis_run_publish.specs.LineageLines.{publish_refusal_text}
use Rattle.lpis_run_publish.specs.Stored.{IsStoreFailure, Stays}
use Rattle.lpis_run_publish_country.specs.CountryLineage.{AtTable, IsUnreadTable}
use Rattle.lpis_run_publish_country.specs.PublishCountryAnswer.{AreBlocksOf, AreSaid, AreTopRead}
use Rattle.lpis_run_publish_country.specs.PublishCountryAnswer.{CountryFiles, CountryRequest}
use Rattle.lpis_run_publish_country.specs.PublishCountryAnswer.{CountrySaid, IsPublishCountryAnswer}
use Rattle.lpis_run_publish_country.specs.PublishCountryAnswer.{PublishCountryInputs, setting_said}
use Rattle.lpis_run_publish_country.specs.PublishCountryAnswer.{union_of}

-- ---- files that are not read
-- the certificate, where one is named, is read behind the files at the top
abbrev pub inputs_named : {T : Type 0} → Top T → Option T → List (Name × T)
inputs_named top exact = top_named top ++ cert_named exact

abbrev pub files_named : CountryFiles → List (Name × Known)
files_named given = inputs_named given.top given.exact

-- behind files that have no fault a lineage table was not read; or memory ran out
abbrev pub StopsAtLineage : CountryFiles → PublishCountryInputs → Failure → Type 0
StopsAtLineage given x f = (f ≡ Memory) ⊎ OfPlan x.country (λ plan classes.
    (blocks : List ExactBlock) × AreBlocksOf x.exact blocks
    × AtTable given.lineages (folders plan) (λ name. IsUnreadTable name f))

-- before anything is written a file before the regions was not read, or memory ran out
abbrev pub StopsBefore : CountryFiles → Failure → Type 0
StopsBefore given f = AreUnread (files_named given) f
    ⊎ OfRead AreTopRead given (λ x. StopsAtLineage given x f)

-- ---- the run
-- behind the lines of the regions that passed a file was not read, or memory ran out; or behind
-- those of all regions the database failed; and the register holds what it held
pub record StopsBehind (asked : CountryRequest) (x : PublishCountryInputs)
    (before after : Holdings) (lines : List ℕ) (f : Failure) : Type 0 where
  pub said : CountrySaid
  pub are_said : AreSaid asked.given x said
  pub stopped : StopsRegions (setting_said asked.given asked.detail said) lines f
      ⊎ ((regions : List Contents) × HavePassed (setting_said asked.given asked.detail said)
      (folders said.plan) regions lines × IsStoreFailure f)
  pub same : after ≡ before

-- how the run ends, over what a register holds before and after it. A year that is not above the
-- last one is refused, whatever the files have. In a later one there is an answer: it is decided,
-- and the register written, before its last lines are printed
abbrev pub EndsPublishCountry : CountryRequest → Holdings → Holdings → Known → Known
    → Result ℕ Failure → Type 0
EndsPublishCountry asked before after old new result =
    ((asked.year ≤ last_year before.history) × (after ≡ before) × Runs (λ f. f ≡ Memory)
    (λ a. a ≡ (publish_refusal_text (Year (last_year before.history)), refused)) old new result)
    ⊎ ((last_year before.history < asked.year)
    × RunsOn (λ f. (after ≡ before) × StopsBefore asked.given f)
    (λ lines f. OfRead AreTopRead asked.given (λ x. StopsBehind asked x before after lines f))
    (λ a. OfRead AreTopRead asked.given (λ x. IsPublishCountryAnswer asked x before after a)
    × (a.1 ≢ done → after ≡ before)) old new result)

-- the union of the regions, which all passed
abbrev pub IsUnion : CountryRequest → PublishCountryInputs → Candidate → Type 0
IsUnion asked x c = (said : CountrySaid) × AreSaid asked.given x said
    × (regions : List Contents) × (lines : List ℕ)
    × HavePassed (setting_said asked.given asked.detail said) (folders said.plan) regions lines
    × (c ≡ union_of asked.year said regions)

-- of what was read
abbrev pub IsUnionRead : CountryRequest → Candidate → Type 0
IsUnionRead asked c = OfRead AreTopRead asked.given (λ x. IsUnion asked x c)

-- what a run ends with, and what it leaves in the database
pub record RunsPublishCountry {S : Type 0} (store : Ghosts S) (asked : CountryRequest)
    (old new : RegisterState S) (before after : Known) (result : Result ℕ Failure) : Type 0 where
  pub runs : EndsPublishCountry asked old.held new.held before after result
  pub stored : Stays store (IsUnionRead asked) old new result
