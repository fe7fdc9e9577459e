use Rattle.std.proofs.Common.{◌≡◌, [], false, List, length, map, take}
use Rattle.sqlite_value.specs.Order.{Row}
use Rattle.sqlite.specs.State.{CommitsShowing, HasCleanDisk, IsUnchanged, Survives}
use Rattle.sqlite.specs.Held.{state}
use Rattle.sqlite.specs.Given.{HasGiven}
use Rattle.lpis_register_sql.specs.StoredTables.{kinds_of}
use Rattle.lpis_register_sql.specs.private.Telling.{IsPlainWhere}
use Rattle.lpis_register_sql.proofs.reading.take_rows.Given as goal

abbrev pub invariant-rows : goal.invariant-rows
invariant-rows g l =
    let old = state g.S.Store l.fn.conn in
    let now = state g.S.Store l.rows.conn.now in
    (l.rows.conn.ghost_name ≡ l.initial.rows.conn.ghost_name)
    × Survives old now (CommitsShowing l.sql [] old)
    × (l.fn.conn.in_transaction ≡ false → l.rows.conn.now.in_transaction ≡ false)
    × ((given : List Row) × (map (take (length (kinds_of g.T.Stored.table))) given ≡ map g.T.Stored.columns l.all.items)
    × (IsPlainWhere l.fn.conn.schema l.sql → HasCleanDisk now → HasGiven g.S.Store l.sql [] l.rows.conn.now given × IsUnchanged old now))
