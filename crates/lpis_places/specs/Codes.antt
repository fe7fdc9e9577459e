-- The faults of a table of points.
use Rattle.std.specs.Prelude.{ℕ, List, codes, Option, Some, None}
use Rattle.lpis_tables.specs.declared.fault.TableFault.{TableFault}
use Rattle.lpis_tables.specs.declared.fault.TableFault.TheVariants as table
use Rattle.lpis_places.specs.declared.fault.Axis.{Axis}
use Rattle.lpis_places.specs.declared.fault.Axis.TheVariants.{X, Y}
use Rattle.lpis_places.specs.declared.fault.PointsFault.{PointsFault}
use Rattle.lpis_places.specs.declared.fault.PointsFault.TheVariants.{Memory, Table, Number}

-- the two characters of the code of a coordinate that is none
abbrev pub number_code_text : List ℕ
number_code_text = codes "3d"

-- the name of a coordinate's column
abbrev pub axis_text : Axis → List ℕ
axis_text X = codes "x"
axis_text Y = codes "y"

-- a fault that any table may have, without the table's name
abbrev pub of_table : TableFault → PointsFault
of_table table.Memory = Memory
of_table (table.At code name row wkt) = Table code row

-- what a fault reports: itself, but that memory ran out
abbrev pub points_fault_reported : PointsFault → Option PointsFault
points_fault_reported Memory = None
points_fault_reported (Table code row) = Some (Table code row)
points_fault_reported (Number row axis code) = Some (Number row axis code)
