use Rattle.std.proofs.Common.{◌≡◌, ◌++◌, length, map}
use Rattle.lpis_tables.proofs.Common.{fields_of, flat}
use Rattle.lpis_tables.proofs.rows.copy_rows.Given as goal

abbrev pub invariant-rows : goal.invariant-rows
invariant-rows l = (map fields_of l.rows.items ++ map flat l.reader.rows ≡ map flat l.initial.reader.rows) × (l.reader.stop ≡ l.initial.reader.stop)

abbrev pub decreases-rows : goal.decreases-rows
decreases-rows l = length l.reader.rows
