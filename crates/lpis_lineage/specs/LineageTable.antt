-- The table of lineage: its rows, and its first fault.
use Rattle.std.specs.Prelude.{◌≡◌, ◌∷◌, ◌++◌, Bool, false, true, ℕ, List, [], codes, Option, None}
use Rattle.std.specs.Prelude.{Some, Result, Ok, if◌then◌else◌, unwrap_or}
use Rattle.std.specs.Str.{bytes_eq}
use Rattle.std.specs.declared.vec.Vec.{Vec}
use Rattle.std.specs.declared.alloc.Global.{Global}
use Rattle.lpis_tables.specs.declared.fault.Table.TheVariants.{Lineage}
use Rattle.lpis_tables.specs.declared.fault.TableCode.TheVariants.{BadMark}
use Rattle.lpis_tables.specs.declared.fault.TableFault.{TableFault}
use Rattle.lpis_tables.specs.Faults.{RowsOf, id_faults}
use Rattle.lpis_tables.specs.Table.{AnswersBy, Fields, fault_at, field_of}
use Rattle.lpis_lineage.specs.declared.row.Row.{Row}

-- the successor in a field: none where it is empty
abbrev pub successor_of : List ℕ → Option (List ℕ)
successor_of [] = None
successor_of (b ∷ bytes) = Some (b ∷ bytes)

-- the faults of a field that is to be empty or an identifier
abbrev pub successor_faults : ℕ → List ℕ → List TableFault
successor_faults n [] = []
successor_faults n (b ∷ bytes) = id_faults Lineage n (b ∷ bytes)

-- whether a text marks a row: `1` does; `0` and no text do not; another one is no mark
abbrev pub mark_of_text : List ℕ → Option Bool
mark_of_text [] = Some false
mark_of_text (b ∷ bytes) =
    if bytes_eq (b ∷ bytes) (codes "0") then Some false else
    (if bytes_eq (b ∷ bytes) (codes "1") then Some true else None)

-- the faults of a field that is to be a mark
abbrev pub mark_field_faults : ℕ → Option Bool → List TableFault
mark_field_faults n (Some mark) = []
mark_field_faults n None = fault_at BadMark Lineage n ∷ []

-- the faults of a row, in the order of the columns; no row is a fault for those above it
abbrev pub lineage_faults : ℕ → Fields → List TableFault
lineage_faults n row = id_faults Lineage n (field_of row 0)
    ++ (successor_faults n (field_of row 1) ++ mark_field_faults n (mark_of_text (field_of row 2)))

abbrev pub row_of : Fields → Row
row_of row = record {
  old = field_of row 0;
  new = successor_of (field_of row 1);
  exact = unwrap_or (mark_of_text (field_of row 2)) false;
}

-- a row has an old identifier, a new one or none, and a mark, which is empty where the column
-- `exact` is absent
abbrev pub lineage_table : RowsOf Row
lineage_table = record {
  table = Lineage;
  columns = codes "old" ∷ codes "new" ∷ [];
  further = codes "exact" ∷ [];
  enough = λ has. true;
  faults = λ keys. lineage_faults;
  value = row_of;
}

-- a call answers these rows or this fault, or that memory ran out
abbrev pub AnswersRows : Result (Vec Row Global) TableFault → Result (List Row) TableFault → Type 0
AnswersRows result said =
    AnswersBy (λ (rows : Vec Row Global) (s : Result (List Row) TableFault). s ≡ Ok rows.items)
    result said
