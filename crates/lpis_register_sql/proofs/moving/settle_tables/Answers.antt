use Rattle.lpis_register_sql.proofs.MadeLemmas.{settled_tables}
use Rattle.lpis_register_rows.specs.declared.version.Version.TheVariants.{First, Second, Third}
use Rattle.lpis_register_sql.proofs.moving.settle_tables.Goals as goal

pub returns-in-First-clause-tables : goal.returns-in-First-clause-tables
returns-in-First-clause-tables g c =
    settled_tables g.S.Store First c.args.found.now c.args.spans.now c.args.tx.now.conn.now
    c.fill_moved.new.tx.conn.now c.fill_moved.result c.fill_moved.ensures.makes

pub returns-in-Second-clause-tables : goal.returns-in-Second-clause-tables
returns-in-Second-clause-tables g c =
    settled_tables g.S.Store Second c.args.found.now c.args.spans.now c.args.tx.now.conn.now
    c.fill_raised.new.tx.conn.now c.fill_raised.result c.fill_raised.ensures.makes

pub returns-in-Third-clause-tables : goal.returns-in-Third-clause-tables
returns-in-Third-clause-tables g c =
    settled_tables g.S.Store Third c.args.found.now c.args.spans.now c.args.tx.now.conn.now
    c.complete.new.tx.conn.now c.complete.result c.complete.ensures.makes
