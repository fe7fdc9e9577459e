-- The table of classes: a code, and how much of its land is eligible.
use Rattle.std.specs.Prelude.{◌||◌, ◌∷◌, ◌++◌, ℕ, List, [], codes, Result, Ok, Err}
use Rattle.std.specs.Result.{result_unwrap_or}
use Rattle.lpis_tables.specs.declared.class.Class.{Class}
use Rattle.lpis_tables.specs.declared.fault.Table.TheVariants.{Classes}
use Rattle.lpis_tables.specs.declared.fault.TableCode.{TableCode}
use Rattle.lpis_tables.specs.declared.fault.TableFault.{TableFault}
use Rattle.lpis_tables.specs.Faults.{RowsOf, key_faults}
use Rattle.lpis_tables.specs.Percentages.{percentage_in}
use Rattle.lpis_tables.specs.private.Percent.{percentage-within}
use Rattle.lpis_tables.specs.Table.{Fields, fault_at, field_of, has_column, optional_field}

-- the percentage of a row: of its field `percent`, or of its mark `eligible` without such a column
abbrev pub percentage_of : Fields → Result ℕ TableCode
percentage_of row = percentage_in (optional_field row 1) (field_of row 2)

abbrev pub code_faults : ℕ → Result ℕ TableCode → List TableFault
code_faults n (Ok percent) = []
code_faults n (Err code) = fault_at code Classes n ∷ []

abbrev pub class_faults : List (List ℕ) → ℕ → Fields → List TableFault
class_faults keys n row = key_faults Classes n keys (field_of row 0)
    ++ code_faults n (percentage_of row)

abbrev pub class_of : Fields → Class
class_of row = record {
  code = field_of row 0;
  percent = result_unwrap_or (percentage_of row) 0;
  within = percentage-within (optional_field row 1) (field_of row 2);
}

-- a row is a class: its code, and its percentage. One of the two columns for this has to be there
abbrev pub classes_table : RowsOf Class
classes_table = record {
  table = Classes;
  columns = codes "class" ∷ [];
  further = codes "percent" ∷ codes "eligible" ∷ [];
  enough = λ has. has_column has 1 || has_column has 2;
  faults = class_faults;
  value = class_of;
}
