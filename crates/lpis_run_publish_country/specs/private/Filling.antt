-- What a run that asks for blocks came to, of what was read.
use Rattle.std.specs.Prelude.{◌≡◌, ◌≢◌, [], ℕ, List, None, Result}
use Rattle.lpis_release.specs.Release.{Contents}
use Rattle.lpis_cert.specs.declared.cert.Cert.{Cert}
use Rattle.lpis_country.specs.Country.{country_of}
use Rattle.lpis_lineage.specs.declared.row.Row.{Row}
use Rattle.lpis_register.specs.Holdings.{Holdings}
use Rattle.lpis_run.specs.Outputs.{Held, Outputs}
use Rattle.lpis_run.specs.Status.{done}
use Rattle.lpis_run.specs.declared.detail.Detail.TheVariants.{Regions}
use Rattle.lpis_run.specs.declared.failure.Failure.{Failure}
use Rattle.lpis_run.specs.Run.{RunsOnBoth}
use Rattle.lpis_run_country.specs.CountryAnswer.{Setting}
use Rattle.lpis_run_country.specs.CountryFailures.{StopsRegions}
use Rattle.lpis_run_publish.specs.ExactAnswer.{HasTextOnlyIfDone, IsBlocksAnswer}
use Rattle.lpis_run_publish_country.specs.CountryLineage.{country_refusal_text, rows_in}
use Rattle.lpis_run_publish_country.specs.ExactCountryAnswer.{FillsRegions, HasNoParts}
use Rattle.lpis_run_publish_country.specs.PublishCountryAnswer.{AreSaid, CountryFiles, CountrySaid}
use Rattle.lpis_run_publish_country.specs.PublishCountryAnswer.{PublishCountryInputs, setting_said}

-- the certificate has nothing
pub record IsEmpty (c : Cert) : Type 0 where
  pub rest : HasNoParts c
  pub exact : c.exact ≡ []

-- the answer to the union of these regions, of which there is a text with the status `done` alone
abbrev pub IsFillOutcome : Setting → List (List Row) → List Contents → Holdings → Outputs
    → Type 0
IsFillOutcome g tables regions before = HasTextOnlyIfDone (IsBlocksAnswer
    (country_of g.classes regions).parcels (rows_in tables) HasNoParts before
    (country_refusal_text g.names tables))

-- behind the lines of the regions that passed a file was not read, or memory ran out
abbrev pub StopsFillBehind : CountryFiles → PublishCountryInputs → List ℕ → Failure → Type 0
StopsFillBehind given x lines f = (said : CountrySaid) × AreSaid given x said
    × StopsRegions (setting_said given Regions said) lines f

-- an answer to the regions, with a text where it is done alone
pub record FillsWhole (given : CountryFiles) (x : PublishCountryInputs) (before : Holdings)
    (lines : List ℕ) (end : Outputs) : Type 0 where
  pub fills : FillsRegions given x before lines end
  pub no_text : end.status ≢ done → end.cert ≡ None

-- a run over the regions of what the files before them say
abbrev pub FillsPrepared : {E : Type 0} → CountryFiles → PublishCountryInputs → Holdings
    → Held E → Held E → Result ℕ Failure → Type 0
FillsPrepared given x before =
    RunsOnBoth (λ f. ⊥) (StopsFillBehind given x) (FillsWhole given x before)
