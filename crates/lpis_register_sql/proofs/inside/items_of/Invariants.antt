use Rattle.std.proofs.Common.{◌≡◌, ◌++◌, List, length, map, take}
use Rattle.std.specs.Vec.Iter.{into_iter_items, into_iter_len}
use Rattle.sqlite_value.specs.Order.{Row}
use Rattle.lpis_register_sql.specs.StoredTables.{kinds_of}
use Rattle.lpis_register_sql.proofs.inside.items_of.Given as goal

abbrev pub invariant-loop-row : goal.invariant-loop-row
invariant-loop-row g l = ((read : List Row) × (read ++ into_iter_items l.row-iterator ≡ into_iter_items l.initial.row-iterator)
    × (map (take (length (kinds_of g.T.Stored.table))) read ≡ map g.T.Stored.columns l.all.items))
    × (into_iter_len l.row-iterator ≡ length (into_iter_items l.row-iterator))
