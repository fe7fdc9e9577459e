use Rattle.std.proofs.Common.{◌≡◌, Ok, map, take}
use Rattle.lpis_register_sql.specs.Making.{plain_statement}
use Rattle.lpis_register_sql.specs.Within.{Makes}
use Rattle.lpis_register_sql.proofs.statements.run_all.Given as goal

abbrev pub invariant-loop-text : goal.invariant-loop-text
invariant-loop-text g l =
    record {
      same_reference : l.tx.conn.ghost_name ≡ l.fn.tx.conn.ghost_name;
      makes : Makes g.S.Store (map (λ t. plain_statement t.now) (take l.text-index l.texts)) l.fn.tx.conn.now l.tx.conn.now (Ok tt);
    }
