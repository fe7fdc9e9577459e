use Rattle.std.proofs.Common.{◌≡◌, Ok, map, take}
use Rattle.lpis_register_sql.specs.Making.{whole_span_statement}
use Rattle.lpis_register_sql.specs.Within.{Makes}
use Rattle.lpis_register_sql.proofs.moving.insert_whole_spans.Given as goal

abbrev pub invariant-loop-span : goal.invariant-loop-span
invariant-loop-span g l =
    record {
      same_reference : l.tx.conn.ghost_name ≡ l.fn.tx.conn.ghost_name;
      makes : Makes g.S.Store (map whole_span_statement (take l.span-index l.spans)) l.fn.tx.conn.now l.tx.conn.now (Ok tt);
    }
