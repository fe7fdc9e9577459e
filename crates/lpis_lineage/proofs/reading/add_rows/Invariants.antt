use Rattle.std.proofs.Common.{◌≡◌, length, map}
use Rattle.lpis_lineage.proofs.Common.{Row}
use Rattle.lpis_tables.proofs.Shared.{IsRead}
use Rattle.lpis_lineage.specs.LineageTable.{lineage_table}
use Rattle.lpis_lineage.proofs.reading.add_rows.Given as goal

abbrev pub invariant-rows : goal.invariant-rows
invariant-rows l = IsRead lineage_table l.initial.reader (map (λ (r : Row). r.old) l.rows.items) l.rows.items l.reader × (l.number ≡ l.reader.number)

abbrev pub decreases-rows : goal.decreases-rows
decreases-rows l = length l.reader.rows
