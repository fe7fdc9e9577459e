use Rattle.lpis_register_sql.proofs.AnsweringLemmas.{opened_by, shows_by}
use Rattle.lpis_register_sql.proofs.ShowingLemmas.{by_query}
use Rattle.lpis_register_sql.proofs.reading.read_table.Goals as goal

pub returns-clause-reads : goal.returns-clause-reads
returns-clause-reads g c =
    let is = c.query.ensures in
    by_query g.T.Stored.table g.T.Stored.columns (rw is at c.read_rows.ensures.shown) (rw is at c.read_rows.ensures.same) (rw is at c.read_rows.ensures.survives)

pub returns-clause-tells : goal.returns-clause-tells
returns-clause-tells g c = rw c.query.ensures at c.read_rows.ensures.tells

pub returns-clause-shows : goal.returns-clause-shows
returns-clause-shows g c = shows_by g.T.Stored.table g.T.Stored.columns _ _ c.read_rows.result (rw c.query.ensures at c.read_rows.ensures.shown)

pub returns-clause-was_open : goal.returns-clause-was_open
returns-clause-was_open g c = opened_by g.T.Stored.table g.T.Stored.columns _ _ c.read_rows.result (rw c.query.ensures at c.read_rows.ensures.shown)
