-- Where points lie, and what a release adds to what was found of them.
use Rattle.std.specs.Prelude.{◌≡◌, ⊤, ℕ, List, length, slice_get, Option, None, Some}
use Rattle.lpis_points.specs.Plane.{RationalPoint}
use Rattle.lpis_release.specs.Release.{Contents}
use Rattle.lpis_checker.specs.SoundMap.{IsLocated, IsNowhere}
use Rattle.lpis_places.specs.declared.place.Place.{Place}
use Rattle.lpis_places.specs.Points.{Given}

-- the parcel and the piece of it that contain the point have these identifiers, and the piece this
-- class
abbrev pub IsPlace : Contents → RationalPoint → Place → Type 0
IsPlace r p a = (l : IsLocated r p a.parcel a.piece) × (l.y.class ≡ a.class)

-- the place of a point, and none where no parcel contains it
abbrev pub IsFound : Contents → RationalPoint → Option Place → Type 0
IsFound r p (Some a) = IsPlace r p a
IsFound r p None = IsNowhere r p

-- a place that was found stays; where none was it is that in the release
abbrev pub FindsIn : Contents → RationalPoint → Option Place → Option Place → Type 0
FindsIn r p (Some a) new = new ≡ Some a
FindsIn r p None new = IsFound r p new

-- what was found of each of the points, before and after a release
pub record AreFoundIn (r : Contents) (ps : List Given) (old new : List (Option Place)) : Type 0
  where
    pub as_many : length new ≡ length old
    pub each : (i : ℕ) (g : Given) (f h : Option Place) → slice_get ps i ≡ Some g
        → slice_get old i ≡ Some f → slice_get new i ≡ Some h → FindsIn r g.at f h

-- a place that was found stays, and one that is new is that in the release
abbrev pub IsKept : Contents → RationalPoint → Option Place → Option Place → Type 0
IsKept r p (Some a) new = new ≡ Some a
IsKept r p None (Some a) = IsPlace r p a
IsKept r p None None = ⊤

-- so it is of each of the points, whether or not the look through the release came to its end
pub record AreKept (r : Contents) (ps : List Given) (old new : List (Option Place)) : Type 0 where
  pub as_many : length new ≡ length old
  pub each : (i : ℕ) (g : Given) (f h : Option Place) → slice_get ps i ≡ Some g
      → slice_get old i ≡ Some f → slice_get new i ≡ Some h → IsKept r g.at f h
