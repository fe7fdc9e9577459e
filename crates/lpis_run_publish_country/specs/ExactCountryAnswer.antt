-- The answer to a country that is asked for the blocks of its marked rows: the certificate with
-- them, or the line that says why there is none; and the status.
use Rattle.std.specs.Prelude.{◌≡◌, ◌≢◌, ◌⊎◌, [], ℕ, List, None, Result}
use Rattle.lpis_cert.specs.declared.cert.Cert.{Cert}
use Rattle.lpis_country.specs.Country.{country_of}
use Rattle.lpis_country.specs.Tree.{folders}
use Rattle.lpis_register.specs.Holdings.{Holdings}
use Rattle.lpis_run.specs.Outputs.{Held, Outputs}
use Rattle.lpis_run.specs.Run.{OfRead, RunsOnBoth}
use Rattle.lpis_run.specs.Status.{done}
use Rattle.lpis_run.specs.declared.detail.Detail.TheVariants.{Regions}
use Rattle.lpis_run.specs.declared.failure.Failure.{Failure}
use Rattle.lpis_run_country.specs.CountryAnswer.{BehindRegions}
use Rattle.lpis_run_country.specs.CountryFailures.{StopsRegions}
use Rattle.lpis_run_publish.specs.ExactAnswer.{IsBlocksAnswer}
use Rattle.lpis_run_publish_country.specs.CountryLineage.{country_refusal_text, rows_in}
use Rattle.lpis_run_publish_country.specs.PublishCountryAnswer.{AreSaid, AreTopRead, CountryFiles}
use Rattle.lpis_run_publish_country.specs.PublishCountryAnswer.{CountrySaid, IsRefusedBefore}
use Rattle.lpis_run_publish_country.specs.PublishCountryAnswer.{PublishCountryInputs, setting_said}
use Rattle.lpis_run_publish_country.specs.PublishCountryRuns.{StopsBefore}

-- the certificate has no parts but blocks
pub record HasNoParts (c : Cert) : Type 0 where
  pub pieces : c.pieces ≡ []
  pub parcels : c.parcels ≡ []
  pub pairs : c.pairs ≡ []

-- the files before the regions say this; regions passed, with these lines; and behind them the next
-- one is refused, or all passed, and this is the answer to what the marked rows of their union ask
-- for: a certificate that has the blocks and nothing else, or why there is none
pub record FillsRegions (given : CountryFiles) (x : PublishCountryInputs) (before : Holdings)
    (lines : List ℕ) (end : Outputs) : Type 0 where
  pub said : CountrySaid
  pub are_said : AreSaid given x said
  pub behind : BehindRegions (setting_said given Regions said)
      (λ regions. IsBlocksAnswer (country_of said.classes regions).parcels
      (rows_in said.tables) HasNoParts before
      (country_refusal_text (folders said.plan) said.tables) end.cert)
      lines (end.line, end.status)

-- how the run ends, where a register holds this: it is stopped before its regions, or behind lines
-- of those that passed; or a file before them has a fault, and there are no lines; or it has an
-- answer to the regions. There is a certificate with the status `done` alone
abbrev pub RunsExactCountry : {E : Type 0} → CountryFiles → Holdings → Held E → Held E
    → Result ℕ Failure → Type 0
RunsExactCountry given before = RunsOnBoth (StopsBefore given)
    (λ lines f. OfRead AreTopRead given (λ x. (said : CountrySaid) × AreSaid given x said
    × StopsRegions (setting_said given Regions said) lines f))
    (λ lines end. OfRead AreTopRead given (λ x. ((lines ≡ [])
    × IsRefusedBefore given x (end.line, end.status)) ⊎ FillsRegions given x before lines end)
    × (end.status ≢ done → end.cert ≡ None))
