use Rattle.std.proofs.Common.{◌∙◌, sym}
use Rattle.sqlite.specs.Held.{state}
use Rattle.lpis_register_sql.specs.StoredTables.{is_read}
use Rattle.lpis_register_sql.proofs.QuietLemmas.{leaves_all}
use Rattle.lpis_register_sql.proofs.SeeingLemmas.{found_shown, unfound_shown}
use Rattle.lpis_register_sql.proofs.UnreadLemmas.{told_of}
use Rattle.lpis_register_sql.proofs.reading.load_rows.Goals as goal

pub returns-then-was_found-clause-tells : goal.returns-then-was_found-clause-tells
returns-then-was_found-clause-tells g c =
    told_of c.args.found.now g.T.Stored.table (state g.S.Store c.args.conn.now) (state g.S.Store c.read_table.new.conn) c.read_table.result
    (sym c.was_found.ensures ∙ c.if-was_found.true) c.read_table.ensures.tells

pub returns-then-was_found-clause-shows : goal.returns-then-was_found-clause-shows
returns-then-was_found-clause-shows g c =
    found_shown (is_read c.args.found.now g.T.Stored.table) g.T.Stored.table g.T.Stored.columns (state g.S.Store c.args.conn.now) (state g.S.Store c.read_table.new.conn) c.read_table.result
    (sym c.was_found.ensures ∙ c.if-was_found.true) c.read_table.ensures.shows

pub returns-else-was_found-clause-shows : goal.returns-else-was_found-clause-shows
returns-else-was_found-clause-shows g c =
    unfound_shown (is_read c.args.found.now g.T.Stored.table) g.T.Stored.table g.T.Stored.columns (state g.S.Store c.args.conn.now) c.new.result
    (sym c.was_found.ensures ∙ c.if-was_found.false) c.new.ensures.items

pub returns-else-was_found-clause-reads : goal.returns-else-was_found-clause-reads
returns-else-was_found-clause-reads g c = leaves_all _
