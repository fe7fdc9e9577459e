-- What stopped the rows of a table.
use Rattle.std.specs.Prelude.{◌+◌, ℕ, Option, Some, None}
use Rattle.lpis_tables.specs.declared.fault.Table.{Table}
use Rattle.lpis_tables.specs.declared.fault.TableFault.{TableFault}
use Rattle.lpis_tables.specs.declared.fault.TableFault.TheVariants.{Memory}
use Rattle.lpis_tables.specs.declared.reader.Stop.{Stop}
use Rattle.lpis_tables.specs.declared.reader.Stop.TheVariants as stop
use Rattle.lpis_tables.specs.Table.{Found, fault_at, stopped}

-- the fault that stopped the rows of a table behind the one of this number
abbrev pub stop_fault : Table → ℕ → Stop → TableFault
stop_fault table n stop.Memory = Memory
stop_fault table n (stop.At code) = fault_at code table (n + 1)

-- what is left behind the row of this number: what is found, or nothing where a fault stopped it
abbrev pub left_after : Table → ℕ → Option Stop → Found → Found
left_after table n None found = found
left_after table n (Some s) found = stopped (stop_fault table n s)
