use Rattle.std.proofs.Common.{pos}
use Rattle.lpis_register_rows.specs.Shapes.{text_edits}
use Rattle.lpis_register_sql.proofs.TableLemmas.{made_keeps_tables}
use Rattle.lpis_register_sql.proofs.publishing.write_release.Goals as goal

pub returns-clause-makes : goal.returns-clause-makes
returns-clause-makes g c = rw c.steps_of-steps.ensures at c.write_steps.ensures.makes

pub returns-clause-tables : goal.returns-clause-tables
returns-clause-tables g c clean up within =
    made_keeps_tables g.S.Store (pos c.args.year) (pos c.args.last) c.args.dropped.now c.args.fresh.now c.args.rows.now (text_edits c.args.change.kept.now c.args.change.shapes.now)
    c.args.tx.now.conn.now c.write_steps.new.tx.conn.now c.write_steps.result (rw c.steps_of-steps.ensures at c.write_steps.ensures.makes) clean up within
