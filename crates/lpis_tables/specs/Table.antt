-- The rows of a table by the names of its columns.
use Rattle.std.specs.Prelude.{◌≡◌, ◌==◌, ◌+◌, ◌≤◌, ◌∷◌, Bool, true, false, ℕ, List, [], length, map}
use Rattle.std.specs.Prelude.{nat_lt, Option, Some, None, Result, Ok, Err, slice_index_or, is_some}
use Rattle.std.specs.Prelude.{if◌then◌else◌, option_map, unwrap_or, ◌++◌}
use Rattle.std.specs.Result.{result_map_both}
use Rattle.std.specs.Str.{str_eq_ignore_ascii_case}
use Rattle.std.specs.Borrow.{Bor}
use Rattle.csv.specs.Reading.{default_config, is_bom, records, strip_bom}
use Rattle.lpis_memory.specs.Memory.{AnswersSame, AnswersUnless, UnlessMemory}
use Rattle.lpis_tables.specs.declared.fault.Table.{Table}
use Rattle.lpis_tables.specs.declared.fault.TableCode.{TableCode}
use Rattle.lpis_tables.specs.declared.fault.TableCode.TheVariants.{NotCsv, MissingColumn}
use Rattle.lpis_tables.specs.declared.fault.TableCode.TheVariants.{DoubledColumn, TooManyRows}
use Rattle.lpis_tables.specs.declared.fault.TableFault.{TableFault}
use Rattle.lpis_tables.specs.declared.fault.TableFault.TheVariants.{Memory, At}

-- the most rows of a table, its header aside
abbrev pub most_rows : ℕ
most_rows = 200000

-- a record is its fields
abbrev pub Record : Type 0
Record = List (List ℕ)

-- a fault in a row of a table, which is not one of a polygon's text; row 0 is the header
abbrev pub fault_at : TableCode → Table → ℕ → TableFault
fault_at code table row = At code table row None

-- whether a text starts with a byte order mark
abbrev pub has_mark : List ℕ → Bool
has_mark (a ∷ b ∷ c ∷ rest) = is_bom a b c
has_mark _ = false

-- the indices, from i on, of the fields that have this name in any mix of ASCII cases
unfoldable pub indices_of_name : List ℕ → ℕ → Record → List ℕ
indices_of_name name i [] = []
indices_of_name name i (field ∷ fields) =
    if str_eq_ignore_ascii_case field name then i ∷ indices_of_name name (i + 1) fields else
    indices_of_name name (i + 1) fields

-- where a column stands: at the one field that has its name, or nowhere if it may be absent
abbrev pub one_place : Bool → List ℕ → Result (Option ℕ) TableCode
one_place needed (index ∷ []) = Ok (Some index)
one_place needed (index ∷ other ∷ more) = Err DoubledColumn
one_place true [] = Err MissingColumn
one_place false [] = Ok None

abbrev pub place_of : Bool → Record → List ℕ → Result (Option ℕ) TableCode
place_of needed header name = one_place needed (indices_of_name name 0 header)

-- what follows a value, or the fault in its place
abbrev pub and_then : {A B E : Type 0} → Result A E → (A → Result B E) → Result B E
and_then (Ok x) next = next x
and_then (Err fault) next = Err fault

-- the places of the columns of these names, or the fault of the first that has one
unfoldable pub places_of : Bool → Record → List (List ℕ) → Result (List (Option ℕ)) TableCode
places_of needed header [] = Ok []
places_of needed header (name ∷ names) = and_then (place_of needed header name)
    (λ place. and_then (places_of needed header names) (λ places. Ok (place ∷ places)))

-- the places of the wanted columns: of those that must be there, then of those that may be absent
abbrev pub wanted_places : Record → List (List ℕ) → List (List ℕ)
    → Result (List (Option ℕ)) TableCode
wanted_places header names further = and_then (places_of true header names)
    (λ front. and_then (places_of false header further) (λ back. Ok (front ++ back)))

-- the wanted fields of a row; none for a column that the header has not
abbrev pub Fields : Type 0
Fields = List (Option (List ℕ))

-- the field at a place, empty past the last one
abbrev pub field_at_place : Record → Option ℕ → Option (List ℕ)
field_at_place fields place = option_map (λ index. slice_index_or fields index []) place

-- the fields at these places
abbrev pub picked : List (Option ℕ) → Record → Fields
picked places fields = map (field_at_place fields) places

-- the k-th wanted field, where the header has its column
abbrev pub optional_field : Fields → ℕ → Option (List ℕ)
optional_field row k = slice_index_or row k None

-- the same, empty where the header has not its column
abbrev pub field_of : Fields → ℕ → List ℕ
field_of row k = unwrap_or (optional_field row k) []

-- the wanted fields of a row as a record: empty for a column that the header has not
abbrev pub flat : Fields → Record
flat row = map (λ (field : Option (List ℕ)). unwrap_or field []) row

-- the wanted fields of rows, and the fault that stops them, if one does
pub record Found : Type 0 where
  pub rows : List Fields
  pub stop : Option TableFault

abbrev pub with_row : Fields → Found → Found
with_row row found = record { rows = row ∷ found.rows; stop = found.stop }

abbrev pub stopped : TableFault → Found
stopped fault = record { rows = []; stop = Some fault }

-- the rows, from row n on, before the first of another length than the header's or past the most
unfoldable pub rows_from : Table → ℕ → List (Option ℕ) → ℕ → List Record → Found
rows_from table width places n [] = record { rows = []; stop = None }
rows_from table width places n (r ∷ rs) =
    if length r == width then
    (if nat_lt most_rows n then stopped (fault_at TooManyRows table n)
    else with_row (picked places r) (rows_from table width places (n + 1) rs))
    else stopped (fault_at NotCsv table n)

-- where a reader of a table stands: which of the wanted columns the header has, the number and the
-- wanted fields of the row that it read last (at the start row 0, the header), and what is left
pub record Reading : Type 0 where
  pub table : Table
  pub has : List Bool
  pub number : ℕ
  pub row : Fields
  pub rows : List Fields
  pub stop : Option TableFault

-- whether the header has the k-th wanted column
abbrev pub has_column : List Bool → ℕ → Bool
has_column has k = slice_index_or has k false

abbrev pub reading : Table → List (Option ℕ) → ℕ → Fields → Found → Reading
reading table places n row found = record {
  table = table;
  has = map is_some places;
  number = n;
  row = row;
  rows = found.rows;
  stop =
      found.stop;
}

-- the first record is the header; a text without one lacks its first column
abbrev pub under_header : Table → List (List ℕ) → List (List ℕ) → List Record
    → Result Reading TableFault
under_header table names further [] = Err (fault_at MissingColumn table 0)
under_header table names further (header ∷ rs) = result_map_both
    (λ places. reading table places 0 (picked places header)
    (rows_from table (length header) places 1 rs))
    (λ code. fault_at code table 0) (wanted_places header names further)

-- the table of a text, by its columns' names: one byte order mark is skipped, a second is a fault
unfoldable pub table_of : Table → List (List ℕ) → List (List ℕ) → List ℕ
    → Result Reading TableFault
table_of table names further bytes =
    if has_mark (strip_bom bytes) then Err (fault_at NotCsv table 0)
    else under_header table names further (records default_config (strip_bom bytes))

-- what a fault reports: itself, but that memory ran out
abbrev pub table_fault_reported : TableFault → Option TableFault
table_fault_reported Memory = None
table_fault_reported (At code table row wkt) = Some (At code table row wkt)

-- what reading the next row does. After the end there is no row, and the next read finds the end
-- again; after a fault there is none, and the next read answers that fault again
abbrev pub Advances : Reading → Reading → Result Bool TableFault → Type 0
Advances old new (Ok true) =
    (old.rows ≡ new.row ∷ new.rows) × (new.stop ≡ old.stop) × (new.number ≡ old.number + 1)
    × (new.table ≡ old.table) × (new.number ≤ most_rows) × (new.has ≡ old.has)
Advances old new (Ok false) =
    (old.rows ≡ []) × (old.stop ≡ None) × (new.rows ≡ []) × (new.stop ≡ None)
Advances old new (Err fault) =
    UnlessMemory (λ (f : TableFault). (old.rows ≡ [])
    × (old.stop ≡ Some f)) (table_fault_reported fault)
    × (new.rows ≡ []) × (new.stop ≡ Some fault)

-- a call answers a value that fits what the definition says, or the fault that it says, unless
-- memory ran out
abbrev pub AnswersBy : {A B : Type 0} → (A → Result B TableFault → Type 0) → Result A TableFault
    → Result B TableFault → Type 0
AnswersBy {A} Fits result said =
    AnswersUnless table_fault_reported (λ (x : A). Fits x said) (λ (f : TableFault). said
    ≡ Err f) result

-- the same of the very value
abbrev pub Answers : {A : Type 0} → Result A TableFault → Result A TableFault → Type 0
Answers result said = AnswersSame table_fault_reported said result

-- the texts of borrowed names
abbrev pub texts : List (Bor (List ℕ)) → List (List ℕ)
texts names = map (λ (s : Bor (List ℕ)). s.now) names
