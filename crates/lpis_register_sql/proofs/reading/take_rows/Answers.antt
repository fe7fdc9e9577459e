use Rattle.std.proofs.Common.{◌≡◌, ◌++◌, ◌∷◌, [], ap, length, map, refl, rules, sym, arith}
use Rattle.sqlite.specs.State.{HasCleanDisk}
use Rattle.sqlite.specs.Held.{state}
use Rattle.sqlite.proofs.Callers.{unchanged_then}
use Rattle.lpis_register_sql.proofs.AnsweringLemmas.{begun_where, where_of}
use Rattle.lpis_register_sql.proofs.ReadingLemmas.{fails_same, where_err, one_shown, shown_since}
use Rattle.sqlite.proofs.Callers.{given_begin}
use Rattle.lpis_register_sql.proofs.UnreadLemmas.{misfit_stops, plain_now, query_stops, stops_before, told_err_rows, told_ok_rows}
use Rattle.lpis_register_sql.specs.StoredTables.{kinds_of}
use Rattle.lpis_register_sql.proofs.reading.take_rows.Goals as goal

pub returns-in_err-rows-clause-same : goal.returns-in_err-rows-clause-same
returns-in_err-rows-clause-same g c plain clean =
    let held = rw c.in_err-rows.was at c.query.follows.holds-at-none in
    where_err c.from_residual.result (fails_same c.args.sql.now [] (state g.S.Store c.args.conn.now) (state g.S.Store c.query.follows.lender-at-none) _ plain (held.err clean))

pub rows-init : goal.rows-init
rows-init g c =
    let made = c.in_ok-rows.ensures in
    (refl, made.survives, made.mode, ([], ap (map g.T.Stored.columns) (sym c.requires.empty), λ plain clean. begun_where g.S.Store _ _ c.args.conn.now _ plain (made.begun clean)))

pub returns-in_default-clause-shown : goal.returns-in_default-clause-shown
returns-in_default-clause-shown g c plain clean =
    let moved = c.next.follows.holds-at-none in
    let now = c.next.follows.lender-at-none.conn.now in
    let late : HasCleanDisk (state g.S.Store now) = search rules in
    let inv = c.rows.invariant.3 in
    let was = inv.2 plain (omega (arith, moved.survives.clean)) in
    let shown = (rw (c.in_ok-row.was, c.in_default.is) at (moved.ok late)) c.args.sql.now [] inv.0 was.0 in
    let all = shown_since c.args.sql.now [] (state g.S.Store c.args.conn.now) (state g.S.Store c.rows.rows.conn.now) (state g.S.Store now) was.1 plain inv.0 shown in
    (inv.0, search rules, inv.1)

pub rows-preserved : goal.rows-preserved
rows-preserved g c =
    let moved = c.next.follows.holds-at-none in
    let inv = c.rows.invariant.3 in (
      search rules,
      search rules,
      search rules,
      (
        inv.0 ++ c.in-Some.row.now ∷ [],
        one_shown g.T.Stored.columns (length (kinds_of g.T.Stored.table)) c.rows.all.items c.push.new.self.items inv.0 c.in-Some.row.now _
            c.in_ok-push.ensures.items c.in_ok-item.ensures.columns inv.1,
        λ plain late.
            let was = inv.2 plain (omega (arith, moved.survives.clean)) in
            let given = (rw (c.in_ok-row.was, c.in-Some.is) at (moved.ok late)) c.args.sql.now [] inv.0 was.0 in
            let same = (rw (c.in_ok-row.was) at (moved.same late)) in
            (given, unchanged_then _ _ _ was.1 same),
      ),
    )

pub returns-in_err-rows-clause-tells : goal.returns-in_err-rows-clause-tells
returns-in_err-rows-clause-tells g c =
    let held = rw c.in_err-rows.was at c.query.follows.holds-at-none in
    told_err_rows c.args.sql.now (kinds_of g.T.Stored.table) (state g.S.Store c.args.conn.now) (state g.S.Store c.query.follows.lender-at-none) _ c.from_residual.result c.from_residual.ensures.1
    (λ clean up plain. query_stops c.args.sql.now (kinds_of g.T.Stored.table) (state g.S.Store c.args.conn.now) (state g.S.Store c.query.follows.lender-at-none) _ up plain (held.err clean))

pub returns-in_err-row-clause-tells : goal.returns-in_err-row-clause-tells
returns-in_err-row-clause-tells g c =
    let moved = c.next.follows.holds-at-none in
    let old = state g.S.Store c.args.conn.now in
    let mid = state g.S.Store c.rows.rows.conn.now in
    let now = state g.S.Store c.next.follows.lender-at-none.conn.now in
    let inv = c.rows.invariant.3 in
    let same : c.next.follows.lender-at-none.conn.now ≡ c.conn-in_err-row-1.given.0 = search rules in
    rw (← same) (told_err_rows c.args.sql.now (kinds_of g.T.Stored.table) old now _ c.from_residual-in_err-row.result c.from_residual-in_err-row.ensures.1 (λ clean up plain.
    let was = inv.2 (where_of c.args.conn.now.schema c.args.sql.now plain) (omega (arith, moved.survives.clean)) in
    let fails = (rw c.in_err-row.was at (moved.err clean)) c.args.sql.now [] inv.0 was.0 in
    let stops = query_stops c.args.sql.now (kinds_of g.T.Stored.table) mid now _ was.1.0.is_open (plain_now c.args.sql.now old mid was.1 plain) fails in
    stops_before c.args.sql.now (kinds_of g.T.Stored.table) old mid now _ was.1 c.rows.invariant.1.limit c.rows.invariant.1.counts stops))

pub returns-in_err-item-clause-tells : goal.returns-in_err-item-clause-tells
returns-in_err-item-clause-tells g c =
    let moved = c.next.follows.holds-at-none in
    let old = state g.S.Store c.args.conn.now in
    let now = c.next.follows.lender-at-none.conn.now in
    let inv = c.rows.invariant.3 in
    let same : c.next.follows.lender-at-none.conn.now ≡ c.conn-in_err-item-1.given.0 = search rules in
    rw (← same) (told_err_rows c.args.sql.now (kinds_of g.T.Stored.table) old (state g.S.Store now) _ c.from_residual-in_err-item.result c.from_residual-in_err-item.ensures.1 (λ clean up plain.
    let was = inv.2 (where_of c.args.conn.now.schema c.args.sql.now plain) (omega (arith, moved.survives.clean)) in
    let given = (rw (c.in_ok-row.was, c.in-Some.is) at (moved.ok clean)) c.args.sql.now [] inv.0 was.0 in
    let still = (rw (c.in_ok-row.was) at (moved.same clean)) in
    misfit_stops c.args.sql.now (kinds_of g.T.Stored.table) old (state g.S.Store now) _ inv.0 c.in-Some.row.now (unchanged_then _ _ _ was.1 still)
    (given_begin g.S.Store c.args.sql.now [] now (inv.0 ++ c.in-Some.row.now ∷ []) given) c.in_err-item.ensures.misfit))

pub returns-in_default-clause-tells : goal.returns-in_default-clause-tells
returns-in_default-clause-tells g c =
    let moved = c.next.follows.holds-at-none in
    let old = state g.S.Store c.args.conn.now in
    let now = state g.S.Store c.next.follows.lender-at-none.conn.now in
    let inv = c.rows.invariant.3 in
    let same : c.next.follows.lender-at-none.conn.now ≡ c.conn-in_default-1.given.0 = search rules in
    rw (← same) (told_ok_rows {X = Unit {0}} c.args.sql.now (kinds_of g.T.Stored.table) old now tt (λ clean plain.
    let was = inv.2 (where_of c.args.conn.now.schema c.args.sql.now plain) (omega (arith, moved.survives.clean)) in
    unchanged_then _ _ _ was.1 (rw (c.in_ok-row.was) at (moved.same clean))))
