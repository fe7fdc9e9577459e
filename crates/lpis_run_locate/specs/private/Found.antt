-- What was found of points in regions, one after the other.
use Rattle.std.specs.Prelude.{◌≡◌, ℕ, List, All, Contains as IsAmong, length, slice_get}
use Rattle.std.specs.Prelude.{Option, None, Some, Ok, Err}
use Rattle.lpis_points.specs.Plane.{RationalPoint}
use Rattle.lpis_release.specs.Release.{Contents}
use Rattle.lpis_checker.specs.SoundMap.{IsNowhere}
use Rattle.lpis_places.specs.Places.{IsFound, IsPlace}
use Rattle.lpis_places.specs.Points.{Given, points_of}
use Rattle.lpis_places.specs.declared.place.Place.{Place}
use Rattle.lpis_run_locate.specs.declared.search.Sought.{Sought}
use Rattle.lpis_run_locate.specs.declared.search.Sought.TheVariants as sought

-- what was found of points is where they are in the release
pub record AreFound (r : Contents) (ps : List Given) (found : List (Option Place)) : Type 0 where
  pub as_many : length found ≡ length ps
  pub each : (i : ℕ) (g : Given) (f : Option Place) → slice_get ps i ≡ Some g
      → slice_get found i ≡ Some f → IsFound r g.at f

-- the place of a point in one of the regions, and none where no parcel of them contains it
abbrev pub IsFoundAmong : List Contents → RationalPoint → Option Place → Type 0
IsFoundAmong rs p (Some a) = (r : Contents) × IsAmong rs r × IsPlace r p a
IsFoundAmong rs p None = All (λ (r : Contents). IsNowhere r p) rs

-- so it is of each point
pub record AreFoundAmong (rs : List Contents) (ps : List Given) (found : List (Option Place)) :
    Type 0 where
  pub as_many : length found ≡ length ps
  pub each : (i : ℕ) (g : Given) (f : Option Place) → slice_get ps i ≡ Some g
      → slice_get found i ≡ Some f → IsFoundAmong rs g.at f

-- the points of a table with what was found of them in these regions, or the table's first fault
abbrev pub IsSearched : List ℕ → List Contents → Sought → Type 0
IsSearched table rs (sought.Points search) =
    (points_of table ≡ Ok search.points) × AreFoundAmong rs search.points search.found.items
IsSearched table rs (sought.Nothing fault) = points_of table ≡ Err fault
