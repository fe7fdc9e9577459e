use Rattle.std.proofs.Common.{◌≡◌, Ok, take}
use Rattle.std.specs.List.{flat_map}
use Rattle.lpis_register_sql.specs.Making.{unless}
use Rattle.lpis_register_sql.specs.Within.{Makes}
use Rattle.lpis_register_sql.proofs.completing.make_missing.Given as goal

abbrev pub invariant-loop-statement : goal.invariant-loop-statement
invariant-loop-statement g l =
    record {
      same_reference : l.tx.conn.ghost_name ≡ l.fn.tx.conn.ghost_name;
      makes : Makes g.S.Store (flat_map (λ it. unless it.0 it.1.now) (take l.statement-index l.statements)) l.fn.tx.conn.now l.tx.conn.now (Ok tt);
    }
