use Rattle.std.proofs.Common.{◌∙◌, ◌≡◌, sym, true}
use Rattle.lpis_register_sql.specs.StoredTables.{is_read}
use Rattle.lpis_register_sql.proofs.Common.{state}
use Rattle.lpis_register_sql.proofs.InsideLemmas.{asked_not, asked_open, asked_quiet, items_shown, items_told}
use Rattle.lpis_register_sql.proofs.SeeingLemmas.{found_shown}
use Rattle.lpis_register_sql.proofs.inside.rows_inside.Goals as goal

pub returns-in_err-rows-clause-quiet : goal.returns-in_err-rows-clause-quiet
returns-in_err-rows-clause-quiet g c =
    asked_quiet g.T.Stored.table (state g.S.Store c.args.tx.now.conn.now) (state g.S.Store c.query_all.new.self.conn.now) c.query_all.result
    (rw c.query.ensures at c.query_all.ensures.ok) (rw c.query.ensures at c.query_all.ensures.err) c.query_all.ensures.survives

pub returns-clause-quiet : goal.returns-clause-quiet
returns-clause-quiet g c =
    asked_quiet g.T.Stored.table (state g.S.Store c.args.tx.now.conn.now) (state g.S.Store c.query_all.new.self.conn.now) c.query_all.result
    (rw c.query.ensures at c.query_all.ensures.ok) (rw c.query.ensures at c.query_all.ensures.err) c.query_all.ensures.survives

pub returns-in_err-rows-clause-tells : goal.returns-in_err-rows-clause-tells
returns-in_err-rows-clause-tells g c =
    let read : is_read c.args.found.now g.T.Stored.table ≡ true = sym c.was_found.ensures ∙ c.if-not-was_found.false in
    asked_not c.args.found.now g.T.Stored.table read (state g.S.Store c.args.tx.now.conn.now) (state g.S.Store c.query_all.new.self.conn.now) _ c.from_residual.result c.from_residual.ensures.1
    (rw c.query.ensures at c.in_err-rows.ensures.err)

pub returns-clause-tells : goal.returns-clause-tells
returns-clause-tells g c =
    let read : is_read c.args.found.now g.T.Stored.table ≡ true = sym c.was_found.ensures ∙ c.if-not-was_found.false in
    items_told c.args.found.now g.T.Stored.table read (state g.S.Store c.args.tx.now.conn.now) (state g.S.Store c.query_all.new.self.conn.now) c.in_ok-rows.rows.items c.items_of.result
    (rw c.query.ensures at c.in_ok-rows.ensures.ok) c.items_of.ensures.misfit

pub returns-clause-shows : goal.returns-clause-shows
returns-clause-shows g c =
    let a = state g.S.Store c.args.tx.now.conn.now in
    let b = state g.S.Store c.query_all.new.self.conn.now in
    let read : is_read c.args.found.now g.T.Stored.table ≡ true = sym c.was_found.ensures ∙ c.if-not-was_found.false in
    found_shown (is_read c.args.found.now g.T.Stored.table) g.T.Stored.table g.T.Stored.columns a b c.items_of.result read
    (items_shown c.args.found.now g.T.Stored.table read a b g.T.Stored.columns c.in_ok-rows.rows.items c.items_of.result
    (rw c.query.ensures at c.in_ok-rows.ensures.ok) c.items_of.ensures.columns)

pub returns-clause-open : goal.returns-clause-open
returns-clause-open g c there =
    asked_open g.T.Stored.table (state g.S.Store c.args.tx.now.conn.now) (state g.S.Store c.query_all.new.self.conn.now) c.in_ok-rows.rows.items c.items_of.result
    (rw c.query.ensures at c.in_ok-rows.ensures.ok)
