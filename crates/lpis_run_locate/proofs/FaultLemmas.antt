-- The line of a refused table of points, part by part.
use Rattle.std.proofs.Common.{◌≡◌, ◌++◌, ◌∙◌, ℕ, List, Option, ap, append_assoc, codes, subst, sym}
use Rattle.std.specs.Io.KnownBytes.{Appends}
use Rattle.std.specs.Fmt.{decimal}
use Rattle.lpis_tables.specs.Codes.{table_code_text}
use Rattle.lpis_tables.specs.declared.fault.TableCode.{TableCode}
use Rattle.lpis_wkt.specs.Codes.{wkt_code_text}
use Rattle.lpis_wkt.specs.declared.fault.WktCode.{WktCode}
use Rattle.lpis_places.specs.Codes.{axis_text}
use Rattle.lpis_places.specs.declared.fault.Axis.{Axis}
use Rattle.lpis_places.specs.declared.fault.PointsFault.TheVariants.{Number, Table}
use Rattle.lpis_run_locate.specs.LocateLines.{points_refusal_text}

-- three texts, and then a fourth
last_of : (a b c d : List ℕ) → a ++ (b ++ (c ++ d)) ≡ a ++ b ++ c ++ d
last_of a b c d = sym (append_assoc (a ++ b) c d ∙ append_assoc a b (c ++ d))

-- a code and a row are the line of a fault that any table may have
pub table_line : (old new : Option (List ℕ)) (code : TableCode) (row : ℕ) (said : List ℕ) → said ≡ table_code_text code
    → Appends old new (codes "refused " ++ (said ++ (codes " points row " ++ (decimal row ++ codes "\n")))) → Appends old new (points_refusal_text (Table code row))
table_line old new code row said is written =
    subst (λ (t : List ℕ). Appends old new (codes "refused " ++ t)) (ap (λ (s : List ℕ). s ++ (codes " points row " ++ (decimal row ++ codes "\n"))) is
    ∙ last_of (table_code_text code) (codes " points row ") (decimal row) (codes "\n")) written

-- five texts, and then a sixth
last_of_six : (a b c d e f : List ℕ) → a ++ (b ++ (c ++ (d ++ (e ++ f)))) ≡ a ++ b ++ c ++ d ++ e ++ f
last_of_six a b c d e f = last_of a b c (d ++ (e ++ f)) ∙ sym (append_assoc (a ++ b ++ c ++ d) e f ∙ append_assoc (a ++ b ++ c) d (e ++ f))

-- a row, a column and a code are the line of a coordinate that is none
pub number_line : (old new : Option (List ℕ)) (row : ℕ) (axis : Axis) (code : WktCode) (axis-said code-said : List ℕ) → axis-said ≡ axis_text axis → code-said ≡ wkt_code_text code
    → Appends old new (codes "refused 3d points row " ++ (decimal row ++ (codes " " ++ (axis-said ++ (codes " " ++ (code-said ++ codes "\n"))))))
    → Appends old new (points_refusal_text (Number row axis code))
number_line old new row axis code axis-said code-said at is written =
    subst (λ (t : List ℕ). Appends old new (codes "refused 3d points row " ++ t)) (ap (λ (s : List ℕ). decimal row ++ (codes " " ++ (s ++ (codes " " ++ (code-said ++ codes "\n"))))) at
    ∙ ap (λ (s : List ℕ). decimal row ++ (codes " " ++ (axis_text axis ++ (codes " " ++ (s ++ codes "\n"))))) is
    ∙ last_of_six (decimal row) (codes " ") (axis_text axis) (codes " ") (wkt_code_text code) (codes "\n")) written
