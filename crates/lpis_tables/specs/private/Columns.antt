-- Places found so far, and the fault of a column that is not found.
use Rattle.std.specs.Prelude.{◌≡◌, ◌++◌, ℕ, List, Option, Result, Ok, Err}
use Rattle.lpis_tables.specs.declared.fault.Table.{Table}
use Rattle.lpis_tables.specs.declared.fault.TableCode.{TableCode}
use Rattle.lpis_tables.specs.declared.fault.TableFault.{TableFault}
use Rattle.lpis_tables.specs.declared.fault.TableFault.TheVariants.{Memory, At}
use Rattle.lpis_tables.specs.Table.{and_then, fault_at}

-- places, and those after them
abbrev pub after_places : List (Option ℕ) → Result (List (Option ℕ)) TableCode
    → Result (List (Option ℕ)) TableCode
after_places front more = and_then more (λ back. Ok (front ++ back))

-- the fault reports, in row 0, what was said of the columns, or that memory ran out
abbrev pub NamesColumn : Table → Result (List (Option ℕ)) TableCode → TableFault → Type 0
NamesColumn table said Memory = Unit {0}
NamesColumn table said (At code in_table row wkt) = (said ≡ Err code)
    × (At code in_table row wkt ≡ fault_at code table 0)
