-- The lines that are printed of points.
use Rattle.std.specs.Prelude.{◌≡◌, ◌++◌, ◌∷◌, [], ℕ, List, codes}
use Rattle.std.specs.Prelude.{Option, Some, None}
use Rattle.std.specs.Fmt.{decimal}
use Rattle.lpis_wkt.specs.Codes.{wkt_code_text}
use Rattle.lpis_tables.specs.Codes.{table_code_text}
use Rattle.lpis_release.specs.Release.{Contents}
use Rattle.lpis_places.specs.declared.fault.PointsFault.{PointsFault}
use Rattle.lpis_places.specs.declared.fault.PointsFault.TheVariants as fault
use Rattle.lpis_places.specs.declared.place.Place.{Place}
use Rattle.lpis_places.specs.Codes.{axis_text, number_code_text}
use Rattle.lpis_places.specs.Places.{IsFound}
use Rattle.lpis_places.specs.Points.{Given}

-- ---- points
-- where a point is, up to the end of its line
abbrev pub place_text : Option Place → List ℕ
place_text None = codes " nowhere\n"
place_text (Some a) = codes " parcel " ++ a.parcel ++ codes " piece " ++ a.piece ++ codes " class "
    ++ a.class ++ codes "\n"

-- the line of a point of this identifier
abbrev pub point_line : List ℕ → Option Place → List ℕ
point_line id found = codes "point " ++ id ++ place_text found

-- the lines of points: each has the place of its own in the release
abbrev pub AreLines : Contents → List Given → List ℕ → Type 0
AreLines r [] text = text ≡ []
AreLines r (g ∷ gs) text =
    (found : Option Place) × (rest : List ℕ) × IsFound r g.at found × AreLines r gs rest
    × (text ≡ point_line g.id found ++ rest)

-- ---- refusals
-- what is wrong with the table of points: the code and the row, and of a coordinate that is none
-- its column and the number's own code
abbrev pub points_refusal_text : PointsFault → List ℕ
points_refusal_text fault.Memory = []
points_refusal_text (fault.Table code row) =
    codes "refused " ++ table_code_text code ++ codes " points row " ++ decimal row ++ codes "\n"
points_refusal_text (fault.Number row axis code) =
    codes "refused " ++ number_code_text ++ codes " points row " ++ decimal row ++ codes " "
    ++ axis_text axis ++ codes " " ++ wkt_code_text code ++ codes "\n"
