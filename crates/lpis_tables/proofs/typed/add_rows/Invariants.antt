use Rattle.std.proofs.Common.{◌≡◌, length, map}
use Rattle.lpis_tables.proofs.RowLemmas.{IsRead}
use Rattle.lpis_tables.proofs.typed.add_rows.Given as goal

abbrev pub invariant-rows : goal.invariant-rows
invariant-rows g l = IsRead g.T.TableRow.kind l.initial.reader l.keys l.rows.items l.reader × (l.keys ≡ map g.T.Identified.identifier l.rows.items)

abbrev pub decreases-rows : goal.decreases-rows
decreases-rows g l = length l.reader.rows
