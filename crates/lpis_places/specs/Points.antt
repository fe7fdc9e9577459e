-- The points of a table, or its first fault.
use Rattle.std.specs.Prelude.{◌+◌, ◌∷◌, ℕ, ℤ, List, [], codes, Option, Some, None}
use Rattle.std.specs.Prelude.{Result, Ok, Err, if◌then◌else◌}
use Rattle.std.specs.Option.{option_map}
use Rattle.lpis_memory.specs.Memory.{AnswersSame}
use Rattle.lpis_points.specs.Plane.{RationalPoint}
use Rattle.lpis_wkt.specs.declared.fault.WktCode.{WktCode}
use Rattle.lpis_tables.specs.declared.fault.Table.TheVariants.{Area}
use Rattle.lpis_tables.specs.declared.fault.TableCode.TheVariants.{BadIdentifier}
use Rattle.lpis_tables.specs.declared.fault.TableFault.{TableFault}
use Rattle.lpis_tables.specs.Ids.{is_id}
use Rattle.lpis_tables.specs.Table.{Fields, Reading, and_then, field_of, table_of}
use Rattle.lpis_places.specs.declared.fault.Axis.{Axis}
use Rattle.lpis_places.specs.declared.fault.Axis.TheVariants.{X, Y}
use Rattle.lpis_places.specs.declared.fault.PointsFault.{PointsFault}
use Rattle.lpis_places.specs.declared.fault.PointsFault.TheVariants.{Table, Number}
use Rattle.lpis_places.specs.declared.spot.Spot.{Spot}
use Rattle.lpis_places.specs.Codes.{of_table, points_fault_reported}
use Rattle.lpis_places.specs.Numbers.{number, parts}

-- ---- points
-- the point of these coordinates in millionths of a millimetre
abbrev pub point_at : ℤ → ℤ → RationalPoint
point_at x y = record { x = x; y = y; d = parts }

abbrev pub rational_at : Spot → RationalPoint
rational_at s = point_at s.x s.y

-- a point of the table: its identifier, and where it is
pub record Given : Type 0 where
  pub id : List ℕ
  pub at : RationalPoint

-- ---- a row
-- the identifier that a field is
abbrev pub id_in : ℕ → List ℕ → Result (List ℕ) PointsFault
id_in n field = if is_id field then Ok field else Err (Table BadIdentifier n)

-- the coordinate of a number, or the fault of the number
abbrev pub coordinate_of : ℕ → Axis → Result ℤ WktCode → Result ℤ PointsFault
coordinate_of n axis (Ok z) = Ok z
coordinate_of n axis (Err code) = Err (Number n axis code)

-- the coordinate that a field spells
abbrev pub coordinate_in : ℕ → Axis → List ℕ → Result ℤ PointsFault
coordinate_in n axis field = coordinate_of n axis (number field)

-- the point of row n, or its first fault in the order of the columns
abbrev pub point_in_row : ℕ → Fields → Result Given PointsFault
point_in_row n row =
    and_then (id_in n (field_of row 0))
    (λ id. and_then (coordinate_in n X (field_of row 1))
    (λ x. and_then (coordinate_in n Y (field_of row 2))
    (λ y. Ok (record { id = id; at = point_at x y }))))

-- ---- the table
-- one item before others
abbrev pub before : {A E : Type 0} → Result A E → Result (List A) E → Result (List A) E
before first others = and_then first (λ x. and_then others (λ xs. Ok (x ∷ xs)))

-- the points of rows, of which the first is row n, or their first fault; or what stops the rows
unfoldable pub points_from : ℕ → List Fields → Option PointsFault
    → Result (List Given) PointsFault
points_from n [] None = Ok []
points_from n [] (Some fault) = Err fault
points_from n (row ∷ rows) stop = before (point_in_row n row) (points_from (n + 1) rows stop)

-- the columns of a table of points
abbrev pub point_columns : List (List ℕ)
point_columns = codes "point" ∷ codes "x" ∷ codes "y" ∷ []

-- the points that are left for a reader
abbrev pub points_left : ℕ → Reading → Result (List Given) PointsFault
points_left n t = points_from n t.rows (option_map of_table t.stop)

abbrev pub points_under : Result Reading TableFault → Result (List Given) PointsFault
points_under (Ok t) = points_left 1 t
points_under (Err fault) = Err (of_table fault)

-- the points of the table of a text, or its first fault: of the header, of the rows in their order,
-- or what stops them. Which of the tables it is read as is not told
abbrev pub points_of : List ℕ → Result (List Given) PointsFault
points_of bytes = points_under (table_of Area point_columns [] bytes)

-- a call answers what the definition says, unless memory ran out
abbrev pub Reports : {A : Type 0} → Result A PointsFault → Result A PointsFault → Type 0
Reports said result = AnswersSame points_fault_reported said result
