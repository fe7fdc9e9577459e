-- The lines of points beside what was found of them.
use Rattle.std.specs.Prelude.{◌++◌, ◌∷◌, [], ℕ, List, Option}
use Rattle.lpis_places.specs.declared.place.Place.{Place}
use Rattle.lpis_places.specs.Points.{Given}
use Rattle.lpis_run_locate.specs.LocateLines.{point_line}

-- a line for each point and what was found of it
abbrev pub lines_of : List Given → List (Option Place) → List ℕ
lines_of (g ∷ gs) (f ∷ fs) = point_line g.id f ++ lines_of gs fs
lines_of _ _ = []
