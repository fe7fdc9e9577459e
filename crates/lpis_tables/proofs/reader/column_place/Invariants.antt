use Rattle.std.proofs.Common.{◌≡◌, ◌++◌, drop, option_to_list}
use Rattle.lpis_tables.proofs.Common.{fields_of, one_place}
use Rattle.lpis_tables.specs.Table.{indices_of_name, place_of}
use Rattle.lpis_tables.proofs.reader.column_place.Given as goal

abbrev pub invariant-loop-i : goal.invariant-loop-i
invariant-loop-i l = one_place l.needed (option_to_list l.found ++ indices_of_name l.name l.i (drop l.i (fields_of l.header))) ≡ place_of l.needed (fields_of l.header) l.name
