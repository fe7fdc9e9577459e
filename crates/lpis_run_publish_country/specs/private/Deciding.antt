-- What the run came to, part by part.
use Rattle.std.specs.Prelude.{◌≡◌, ◌≢◌, ℕ, List, IfOk, Result}
use Rattle.sqlite_trees.specs.declared.store.Store.{Ghosts}
use Rattle.lpis_release.specs.Release.{Contents}
use Rattle.lpis_cert.specs.declared.cert.Cert.{Cert}
use Rattle.lpis_register.specs.Holdings.{Holdings, RegisterState}
use Rattle.lpis_register.specs.declared.fault.PublishFault.TheVariants.{Year}
use Rattle.lpis_run.specs.CheckAnswer.{Answer}
use Rattle.lpis_run.specs.Run.{Runs, RunsOn}
use Rattle.lpis_run.specs.Status.{done, refused}
use Rattle.lpis_run.specs.Streams.{Known}
use Rattle.lpis_run.specs.declared.failure.Failure.TheVariants.{Memory}
use Rattle.lpis_run.specs.declared.answer.Answer.{Answer as Printed}
use Rattle.lpis_run.specs.declared.failure.Failure.{Failure}
use Rattle.lpis_run_country.specs.CountryAnswer.{Setting}
use Rattle.lpis_run_publish.specs.LineageLines.{publish_refusal_text}
use Rattle.lpis_run_country.specs.RegionsOutcome.{IsCountryJoined, JoinsAll}
use Rattle.lpis_run_country.specs.declared.joining.JoinedCountry.{JoinedCountry}
use Rattle.lpis_run_publish.specs.Publication.{IsMemoryOrStore, PublishLeaves}
use Rattle.lpis_run_publish.specs.Stored.{Stays}
use Rattle.lpis_run_publish_country.specs.PublishCountryAnswer.{CountryRequest, CountrySaid}
use Rattle.lpis_run_publish_country.specs.PublishCountryAnswer.{IsPublishCountryAnswer}
use Rattle.lpis_run_publish_country.specs.PublishCountryAnswer.{IsUnionAnswer, PublishCountryInputs}
use Rattle.lpis_run_publish_country.specs.PublishCountryAnswer.{setting_said, union_of}
use Rattle.lpis_run_publish_country.specs.PublishCountryRuns.{IsUnion}
use Rattle.lpis_run_publish_country.specs.PublishCountryRuns.{StopsAtLineage, StopsBehind}
use Rattle.lpis_run_publish_country.specs.declared.lineage.CountryLineage.{CountryLineage}
use Rattle.lpis_run_publish_country.specs.private.Preparing.{HasTables}

-- ---- a year that is not above the last one
-- the line that refuses it was written; or memory ran out, or the output failed
abbrev pub RunsEarly : ℕ → Known → Known → Result ℕ Failure → Type 0
RunsEarly last = Runs (λ f. f ≡ Memory) (λ a. a ≡ (publish_refusal_text (Year last), refused))

-- ---- the union
-- the setting of the regions
abbrev pub setting_asked : CountryRequest → CountrySaid → Setting
setting_asked asked said = setting_said asked.given asked.detail said

-- the country of these regions, which all passed, is to be published as was asked: in this year,
-- with the blocks of this certificate and these rows
pub record IsToPublish (asked : CountryRequest) (said : CountrySaid) (regions : List Contents)
    (year : ℕ) (country : JoinedCountry) (cert : Cert) (lineage : CountryLineage) : Type 0 where
  pub lines : List ℕ
  pub joins : JoinsAll (setting_asked asked said) regions lines
  pub joined : IsCountryJoined (setting_asked asked said) regions country
  pub of_year : asked.year ≡ year
  pub of_blocks : said.blocks ≡ cert.exact
  pub has : HasTables lineage said.tables

-- the answer to the union of these regions
abbrev pub DecidesUnion : CountryRequest → CountrySaid → List Contents → Holdings → Holdings
    → Answer → Type 0
DecidesUnion asked said regions before after a =
    IsUnionAnswer asked said regions before after a × (a.1 ≢ done → after ≡ before)

-- memory ran out, or the database failed, before it was written
abbrev pub StopsUnion : Holdings → Holdings → Failure → Type 0
StopsUnion before after f = IsMemoryOrStore f × (after ≡ before)

-- ---- the run of what was read
-- the answer to a country
abbrev pub PublishesCountry : CountryRequest → PublishCountryInputs → Holdings → Holdings → Answer
    → Type 0
PublishesCountry asked x before after a =
    IsPublishCountryAnswer asked x before after a × (a.1 ≢ done → after ≡ before)

module _ {S : Type 0} (store : Ghosts S) where
  -- the answer to it, and what that leaves of the register
  pub record PublishesUnion (asked : CountryRequest) (said : CountrySaid) (regions : List Contents)
      (old new : RegisterState S) (result : Result Printed Failure) : Type 0 where
    pub answer : IfOk result (λ a. IsUnionAnswer asked said regions old.held new.held
        (a.text.items, a.status))
    pub leaves : PublishLeaves store (λ c. c ≡ union_of asked.year said regions) old new result

  pub record EndsUnion (asked : CountryRequest) (said : CountrySaid) (regions : List Contents)
      (old new : RegisterState S) (before after : Known) (result : Result ℕ Failure)
      : Type 0 where
    pub runs : Runs (StopsUnion old.held new.held)
        (DecidesUnion asked said regions old.held new.held) before after result
    pub stored : Stays store (λ c. c ≡ union_of asked.year said regions) old new result

  -- a lineage table was not read, or memory ran out, and the register is as it was
  abbrev pub StopsPrepared : CountryRequest → PublishCountryInputs → Holdings → Holdings → Failure
      → Type 0
  StopsPrepared asked x before after f = (after ≡ before) × StopsAtLineage asked.given x f

  pub record RunsPrepared (asked : CountryRequest) (x : PublishCountryInputs)
      (old new : RegisterState S) (before after : Known) (result : Result ℕ Failure)
      : Type 0 where
    pub runs : RunsOn (StopsPrepared asked x old.held new.held)
        (StopsBehind asked x old.held new.held) (PublishesCountry asked x old.held new.held)
        before after result
    pub stored : Stays store (IsUnion asked x) old new result
