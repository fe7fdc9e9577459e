-- The answer to points in a country: text and status, of the bytes of the country's files and of
-- the table of points.
use Rattle.std.specs.Prelude.{◌≡◌, ◌⊎◌, ℕ, List, Result}
use Rattle.lpis_run.specs.CheckAnswer.{Answer}
use Rattle.lpis_run.specs.Status.{done}
use Rattle.lpis_run.specs.Run.{OfRead, Runs}
use Rattle.lpis_run.specs.Failures.{AreUnread}
use Rattle.lpis_run.specs.Folders.{top_named}
use Rattle.lpis_run.specs.Streams.{Known}
use Rattle.lpis_run.specs.declared.detail.Detail.TheVariants.{Regions}
use Rattle.lpis_run.specs.declared.folder.Top.{Top}
use Rattle.lpis_country.specs.Country.{country_of}
use Rattle.lpis_run_country.specs.CountryAnswer.{BehindRegions, IsTopAnswer, setting_of}
use Rattle.lpis_run_country.specs.CountryFailures.{StopsCountry}
use Rattle.lpis_run_country.specs.Regions.{AreCountryRead, CountryInputs, IsCountry, Texts}
use Rattle.lpis_run.specs.declared.failure.Failure.{Failure}
use Rattle.lpis_places.specs.Points.{points_of}
use Rattle.lpis_run_locate.specs.LocateAnswer.{ArePointsRead, IsPointsAnswer, points_named}
use Rattle.lpis_run_locate.specs.declared.points_in.PointsIn.{PointsIn}

-- the answer: the faults of the country come first, in the order and with the line that they have
-- in `country`, without the lines of the regions that passed; then, of a country all of whose
-- regions pass, the points
abbrev pub IsLocateCountryAnswer : (List ℕ → Texts) → PointsIn CountryInputs (List ℕ) → Answer
    → Type 0
IsLocateCountryAnswer texts x = IsTopAnswer (λ plan classes a. (lines : List ℕ)
    × BehindRegions (setting_of texts Regions plan classes)
    (λ regions. IsPointsAnswer (country_of classes regions) (points_of x.points)) lines a) x.files

-- where it is a yes, the regions make up a country that is a sound map, and each point has the line
-- of its own place in it
pub record AnswersLocateCountry (texts : List ℕ → Texts) (x : PointsIn CountryInputs (List ℕ))
    (a : Answer) : Type 0 where
  pub answer : IsLocateCountryAnswer texts x a
  pub located : a.1 ≡ done → (c : IsCountry texts x.files)
      × IsPointsAnswer (country_of c.classes c.regions) (points_of x.points) a

-- how the run ends; where it is stopped, nothing is written
abbrev pub RunsLocateCountry : (List ℕ → Texts) → PointsIn (Top Known) Known → Known → Known
    → Result ℕ Failure → Type 0
RunsLocateCountry texts given = Runs (λ f. AreUnread (points_named top_named given) f
    ⊎ OfRead (ArePointsRead AreCountryRead) given
    (λ x. (lines : List ℕ) × StopsCountry texts Regions x.files lines f))
    (λ a. OfRead (ArePointsRead AreCountryRead) given (λ x. AnswersLocateCountry texts x a))
