-- The run over a country.
use Rattle.std.specs.Prelude.{ℕ, List, Result}
use Rattle.lpis_run.specs.Failures.{AreUnread}
use Rattle.lpis_run.specs.Folders.{top_named}
use Rattle.lpis_run.specs.Run.{OfRead, RunsOn}
use Rattle.lpis_run.specs.Streams.{Known}
use Rattle.lpis_run.specs.declared.detail.Detail.{Detail}
use Rattle.lpis_run.specs.declared.failure.Failure.{Failure}
use Rattle.lpis_run.specs.declared.folder.Top.{Top}
use Rattle.lpis_run_country.specs.CountryAnswer.{AnswersCountry}
use Rattle.lpis_run_country.specs.CountryFailures.{StopsCountry}
use Rattle.lpis_run_country.specs.Regions.{AreCountryRead, Texts}

-- how the run ends: before anything is written a file at the top may not be read
abbrev pub RunsCountry : (List ℕ → Texts) → Detail → Top Known → Known → Known
    → Result ℕ Failure → Type 0
RunsCountry texts detail given = RunsOn (AreUnread (top_named given))
    (λ lines f. OfRead AreCountryRead given (λ x. StopsCountry texts detail x lines f))
    (λ a. OfRead AreCountryRead given (λ x. AnswersCountry texts detail x a))
