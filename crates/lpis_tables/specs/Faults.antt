-- The values of a table's rows, and its faults in the order in which the first is reported.
use Rattle.std.specs.Prelude.{◌+◌, ◌∷◌, ◌++◌, Bool, true, false, not, ℕ, List, [], map, Some}
use Rattle.std.specs.Prelude.{option_to_list, Result, Ok, Err, if◌then◌else◌}
use Rattle.std.specs.Result.{result_unwrap_or}
use Rattle.std.specs.Str.{is_utf8}
use Rattle.lpis_rings.specs.declared.polygon.Member.{Member}
use Rattle.lpis_wkt.specs.declared.fault.WktCode.{WktCode}
use Rattle.lpis_wkt.specs.declared.fault.WktFault.TheVariants.{At as In}
use Rattle.lpis_wkt.specs.Answer.{polygon_of}
use Rattle.lpis_tables.specs.declared.fault.Table.{Table}
use Rattle.lpis_tables.specs.declared.fault.TableCode.TheVariants.{NotCsv, MissingColumn}
use Rattle.lpis_tables.specs.declared.fault.TableCode.TheVariants.{BadIdentifier}
use Rattle.lpis_tables.specs.declared.fault.TableCode.TheVariants.{DoubledIdentifier, BadGeometry}
use Rattle.lpis_tables.specs.declared.fault.TableFault.{TableFault}
use Rattle.lpis_tables.specs.declared.fault.TableFault.TheVariants.{At}
use Rattle.lpis_tables.specs.Ids.{has_id, is_id}
use Rattle.lpis_tables.specs.Table.{Fields, Reading, fault_at, field_of, table_of}

-- a value where there is no fault, and else the first fault
abbrev pub unless_faulty : {A : Type 0} → List TableFault → A → Result A TableFault
unless_faulty [] value = Ok value
unless_faulty (fault ∷ more) value = Err fault

-- a fault where the test is true
abbrev pub fault_if : Bool → TableFault → List TableFault
fault_if true fault = fault ∷ []
fault_if false fault = []

-- the faults of a field that is to be an identifier
abbrev pub id_faults : Table → ℕ → List ℕ → List TableFault
id_faults table n field = fault_if (not (is_id field)) (fault_at BadIdentifier table n)

-- the faults of a row's own identifier, below rows that have these
abbrev pub key_faults : Table → ℕ → List (List ℕ) → List ℕ → List TableFault
key_faults table n keys field = id_faults table n field ++ fault_if (has_id keys field)
    (fault_at DoubledIdentifier table n)

-- the faults of a field that is to be the text of a polygon
abbrev pub geometry_faults : Table → ℕ → Result (List Member) (WktCode × ℕ) → List TableFault
geometry_faults table n (Ok members) = []
geometry_faults table n (Err fault) = At BadGeometry table n (Some (In fault.0 fault.1)) ∷ []

abbrev pub polygon_faults : Table → ℕ → List ℕ → List TableFault
polygon_faults table n field =
    if is_utf8 field then geometry_faults table n (polygon_of field) else fault_at NotCsv table n
    ∷ []

-- the polygon of a text, where it spells one
abbrev pub polygon_in : List ℕ → List Member
polygon_in field = result_unwrap_or (polygon_of field) []

-- a table whose rows are values of a type: its columns in the order in which they are tested, those
-- that must be there before those that may be absent; whether those of the header are enough; of a
-- row, below rows with these keys, the faults in the order of its columns, and the value. A row's
-- key is its first field
pub record RowsOf (A : Type 0) : Type 0 where
  pub table : Table
  pub columns : List (List ℕ)
  pub further : List (List ℕ)
  pub enough : List Bool → Bool
  pub faults : List (List ℕ) → ℕ → Fields → List TableFault
  pub value : Fields → A

-- the faults of rows, row by row, of which the first is row n; the rows above have these keys
unfoldable pub table_row_faults : {A : Type 0} → RowsOf A → List (List ℕ) → ℕ → List Fields
    → List TableFault
table_row_faults kind keys n [] = []
table_row_faults kind keys n (r ∷ rs) = kind.faults keys n r
    ++ table_row_faults kind (keys ++ field_of r 0 ∷ []) (n + 1) rs

-- a table's rows as values, or its first fault: of row 0, else of a row, else what stops the rows
abbrev pub values_of : {A : Type 0} → RowsOf A → Result Reading TableFault
    → Result (List A) TableFault
values_of kind (Ok t) =
    if kind.enough t.has then
    unless_faulty (table_row_faults kind [] 1 t.rows
    ++ option_to_list t.stop) (map kind.value t.rows)
    else Err (fault_at MissingColumn kind.table 0)
values_of kind (Err fault) = Err fault

abbrev pub rows_of : {A : Type 0} → RowsOf A → List ℕ → Result (List A) TableFault
rows_of kind bytes = values_of kind (table_of kind.table kind.columns kind.further bytes)
