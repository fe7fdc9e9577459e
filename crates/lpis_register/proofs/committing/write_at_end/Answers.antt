use Rattle.std.proofs.Common.{◌≡◌, Err, Ok, refl, rules, subst}
use Rattle.std.proofs.lemmas.Result.{err_from_is_err_and}
use Rattle.lpis_register_sql.proofs.Shared.{undone_stops}
use Rattle.lpis_register_sql.specs.Within.{Makes}
use Rattle.lpis_register.proofs.CommittingLemmas.{statements_are, stopped_writing, unconfirmed_writing}
use Rattle.lpis_register.proofs.WritingLemmas.{commit_fails, confirmed_writes, dropped, dropped_after, kept_tables, not_confirmed, ran_alone}
use Rattle.lpis_register.proofs.RunningLemmas.{committed_runs, dropped_runs, dropped_runs_after}
use Rattle.lpis_register.specs.Failing.{writing_statements}
use Rattle.lpis_register.specs.Holdings.{holdings}
use Rattle.lpis_register.proofs.committing.write_at_end.Goals as goal

pub returns-in-Err-clause-cause : goal.returns-in-Err-clause-cause
returns-in-Err-clause-cause g c h due clean is =
    let w = c.args.writing.now in
    let same : c.drop-tx.new.self.0 ≡ c.conn-1.given.0 = search rules in
    let made = subst (λ xs. Makes g.S.Store xs c.transaction-tx.result.conn.now c.fill.new.tx.conn.now (Err c.in-Err.error)) (statements_are w c.args.last h c.args.kept.now due.last_is)
    c.in-Err.ensures.makes in
    stopped_writing g.S.Store w (holdings h c.args.kept.now) c.args.conn.now _ c.in-Err.error c.fault_of_writing.result c.fault_of_writing.ensures.memory is
    (λ up. undone_stops c.args.conn.now c.transaction-tx.ensures.begun same (Err c.in-Err.error) refl made c.drop-tx.ensures.survives up clean)

pub returns-in-Err-clause-writes : goal.returns-in-Err-clause-writes
returns-in-Err-clause-writes g c =
    let same : c.drop-tx.new.self.0 ≡ c.conn-1.given.0 = search rules in
    rw (← same) (dropped g.S.Store c.args.conn.now c.transaction-tx.result.conn.now c.fill.new.tx.conn.now c.drop-tx.new.self.0 c.transaction-tx.ensures.begun c.in-Err.ensures.makes.quiet
    c.args.history.now c.args.writing.now.shapes.items c.fault_of_writing.result _ c.drop-tx.ensures.survives c.drop-tx.ensures.undone)

pub returns-in_err-confirm-clause-writes : goal.returns-in_err-confirm-clause-writes
returns-in_err-confirm-clause-writes g c =
    let p = err_from_is_err_and c.from_residual.result c.from_residual.ensures.1 in
    let same : c.drop-tx-in_err-confirm.new.self.0 ≡ c.conn-in_err-confirm-1.given.0 = search rules in
    rw (p.1, ← same) (dropped_after g.S.Store c.args.conn.now c.transaction-tx.result.conn.now c.fill.new.tx.conn.now c.confirm.new.tx.conn.now c.drop-tx-in_err-confirm.new.self.0
    c.transaction-tx.ensures.begun c.in-Ok.ensures.makes.quiet c.in_err-confirm.ensures.quiet c.args.history.now c.args.writing.now.shapes.items p.0 _
    c.drop-tx-in_err-confirm.ensures.survives c.drop-tx-in_err-confirm.ensures.undone)

pub returns-in_err-confirm-clause-cause : goal.returns-in_err-confirm-clause-cause
returns-in_err-confirm-clause-cause g c h due clean =
    let tables = kept_tables g.S.Store c.args.conn.now c.transaction-tx.result.conn.now c.fill.new.tx.conn.now c.transaction-tx.ensures.begun c.tables_in-found.result
    (rw c.schema.ensures.value at c.tables_in-found.ensures.there) c.in-Ok.ensures.tables in
    let w = c.args.writing.now in
    let p = err_from_is_err_and c.from_residual.result c.from_residual.ensures.1 in
    let same : c.drop-tx-in_err-confirm.new.self.0 ≡ c.conn-in_err-confirm-1.given.0 = search rules in
    let made = subst (λ xs. Makes g.S.Store xs c.transaction-tx.result.conn.now c.fill.new.tx.conn.now (Ok c.in-Ok.field-0)) (statements_are w c.args.last h c.args.kept.now due.last_is)
    c.in-Ok.ensures.makes in
    rw (p.1, p.2) (λ is. unconfirmed_writing g.S.Store w (holdings h c.args.kept.now) c.args.conn.now c.conn-in_err-confirm-1.given.0 due.candidate c.args.history.now due.follows due.live due.made
    (not_confirmed g.S.Store c.args.conn.now c.transaction-tx.result.conn.now c.fill.new.tx.conn.now c.confirm.new.tx.conn.now
    c.conn-in_err-confirm-1.given.0 c.transaction-tx.ensures.begun _ c.in-Ok.field-0 made
    c.tables_in-found.result tables c.in_err-confirm.ensures.quiet c.args.history.now w.shapes.items
    (λ late up. (rw c.as_slice.ensures.value at (c.in_err-confirm.ensures.cause late up)) is) (rw same at c.drop-tx-in_err-confirm.ensures.survives) clean))

pub returns-in-Ok-commit-clause-writes : goal.returns-in-Ok-commit-clause-writes
returns-in-Ok-commit-clause-writes g c =
    let tables = kept_tables g.S.Store c.args.conn.now c.transaction-tx.result.conn.now c.fill.new.tx.conn.now c.transaction-tx.ensures.begun c.tables_in-found.result
    (rw c.schema.ensures.value at c.tables_in-found.ensures.there) c.in-Ok.ensures.tables in
    let same : c.commit.new.self.0 ≡ c.conn-2-1.given.0 = search rules in
    rw (← same) (confirmed_writes g.S.Store c.args.conn.now c.transaction-tx.result.conn.now c.fill.new.tx.conn.now c.confirm.new.tx.conn.now c.commit.new.self.0 c.transaction-tx.ensures.begun
    _ c.in-Ok.field-0 c.in-Ok.ensures.makes c.tables_in-found.result tables c.in_ok-confirm.ensures.quiet
    c.args.history.now c.args.writing.now.shapes.items (rw c.as_slice.ensures.value at c.in_ok-confirm.ensures.said) c.in-Ok-commit.ensures.survives (Ok c.in-Ok-commit.field-0)
    c.in-Ok-commit.ensures.err (Ok tt) (λ P h. h) (λ P h. h) c.in-Ok-commit.ensures.ok (λ up db may. g.met.S.Store.settled c.commit.new.self.0.store db up may))

pub returns-in-Err-commit-clause-writes : goal.returns-in-Err-commit-clause-writes
returns-in-Err-commit-clause-writes g c =
    let tables = kept_tables g.S.Store c.args.conn.now c.transaction-tx.result.conn.now c.fill.new.tx.conn.now c.transaction-tx.ensures.begun c.tables_in-found.result
    (rw c.schema.ensures.value at c.tables_in-found.ensures.there) c.in-Ok.ensures.tables in
    let same : c.commit.new.self.0 ≡ c.conn-2-1.given.0 = search rules in
    rw (← same) (confirmed_writes g.S.Store c.args.conn.now c.transaction-tx.result.conn.now c.fill.new.tx.conn.now c.confirm.new.tx.conn.now c.commit.new.self.0 c.transaction-tx.ensures.begun
    _ c.in-Ok.field-0 c.in-Ok.ensures.makes c.tables_in-found.result tables c.in_ok-confirm.ensures.quiet
    c.args.history.now c.args.writing.now.shapes.items (rw c.as_slice.ensures.value at c.in_ok-confirm.ensures.said) c.in-Err-commit.ensures.survives (Err c.in-Err-commit.error)
    c.in-Err-commit.ensures.err (Err c.fault_of_writing-in-Err-commit.result) (λ P h. h) (λ P h. h) c.in-Err-commit.ensures.ok (λ up db may. g.met.S.Store.settled c.commit.new.self.0.store db up may))

pub returns-in-Err-commit-clause-cause : goal.returns-in-Err-commit-clause-cause
returns-in-Err-commit-clause-cause g c h due clean is =
    let tables = kept_tables g.S.Store c.args.conn.now c.transaction-tx.result.conn.now c.fill.new.tx.conn.now c.transaction-tx.ensures.begun c.tables_in-found.result
    (rw c.schema.ensures.value at c.tables_in-found.ensures.there) c.in-Ok.ensures.tables in
    let w = c.args.writing.now in
    let same : c.commit.new.self.0 ≡ c.conn-2-1.given.0 = search rules in
    let made = subst (λ xs. Makes g.S.Store xs c.transaction-tx.result.conn.now c.fill.new.tx.conn.now (Ok c.in-Ok.field-0)) (statements_are w c.args.last h c.args.kept.now due.last_is)
    c.in-Ok.ensures.makes in
    stopped_writing g.S.Store w (holdings h c.args.kept.now) c.args.conn.now c.conn-2-1.given.0 c.in-Err-commit.error c.fault_of_writing-in-Err-commit.result
    c.fault_of_writing-in-Err-commit.ensures.memory is
    (λ up. commit_fails g.S.Store c.args.conn.now c.transaction-tx.result.conn.now c.fill.new.tx.conn.now c.confirm.new.tx.conn.now
    c.conn-2-1.given.0 c.transaction-tx.ensures.begun _ c.in-Ok.field-0 made
    c.tables_in-found.result tables c.in_ok-confirm.ensures.quiet c.args.history.now w.shapes.items
    (rw c.as_slice.ensures.value at c.in_ok-confirm.ensures.said) (rw same at c.in-Err-commit.ensures.survives) (Err c.in-Err-commit.error) (rw same at c.in-Err-commit.ensures.err)
    c.in-Err-commit.error refl clean)

pub returns-in-Err-clause-runs : goal.returns-in-Err-clause-runs
returns-in-Err-clause-runs g c h due =
    let same : c.drop-tx.new.self.0 ≡ c.conn-1.given.0 = search rules in
    rw (← same) (dropped_runs g.S.Store c.args.conn.now c.transaction-tx.result.conn.now c.fill.new.tx.conn.now c.drop-tx.new.self.0 c.transaction-tx.ensures.begun c.in-Err.ensures.makes.quiet
    (writing_statements c.args.writing.now (holdings h c.args.kept.now)) c.fault_of_writing.result c.drop-tx.ensures.survives)

pub returns-in_err-confirm-clause-runs : goal.returns-in_err-confirm-clause-runs
returns-in_err-confirm-clause-runs g c h due =
    let p = err_from_is_err_and c.from_residual.result c.from_residual.ensures.1 in
    let same : c.drop-tx-in_err-confirm.new.self.0 ≡ c.conn-in_err-confirm-1.given.0 = search rules in
    rw (p.1, ← same) (dropped_runs_after g.S.Store c.args.conn.now c.transaction-tx.result.conn.now c.fill.new.tx.conn.now c.confirm.new.tx.conn.now c.drop-tx-in_err-confirm.new.self.0
    c.transaction-tx.ensures.begun c.in-Ok.ensures.makes.quiet c.in_err-confirm.ensures.quiet (writing_statements c.args.writing.now (holdings h c.args.kept.now)) p.0
    c.drop-tx-in_err-confirm.ensures.survives)

pub returns-in-Ok-commit-clause-runs : goal.returns-in-Ok-commit-clause-runs
returns-in-Ok-commit-clause-runs g c h due =
    let tables = kept_tables g.S.Store c.args.conn.now c.transaction-tx.result.conn.now c.fill.new.tx.conn.now c.transaction-tx.ensures.begun c.tables_in-found.result
    (rw c.schema.ensures.value at c.tables_in-found.ensures.there) c.in-Ok.ensures.tables in
    let w = c.args.writing.now in
    let same : c.commit.new.self.0 ≡ c.conn-2-1.given.0 = search rules in
    let made = subst (λ xs. Makes g.S.Store xs c.transaction-tx.result.conn.now c.fill.new.tx.conn.now (Ok c.in-Ok.field-0)) (statements_are w c.args.last h c.args.kept.now due.last_is)
    c.in-Ok.ensures.makes in
    committed_runs g.S.Store c.args.conn.now c.transaction-tx.result.conn.now c.fill.new.tx.conn.now c.confirm.new.tx.conn.now c.conn-2-1.given.0 c.transaction-tx.ensures.begun _ c.in-Ok.field-0 made
    c.in_ok-confirm.ensures.quiet (λ late. (c.in_ok-confirm.ensures.said late).2) (rw same at c.in-Ok-commit.ensures.survives) (Ok tt)
    (λ clean. ran_alone g.S.Store c.args.conn.now c.transaction-tx.result.conn.now c.fill.new.tx.conn.now c.confirm.new.tx.conn.now
    c.conn-2-1.given.0 c.transaction-tx.ensures.begun _ c.in-Ok.field-0 made
    c.tables_in-found.result tables c.in_ok-confirm.ensures.quiet c.args.history.now w.shapes.items
    (rw c.as_slice.ensures.value at c.in_ok-confirm.ensures.said) (rw same at c.in-Ok-commit.ensures.survives) (Ok c.in-Ok-commit.field-0) (rw same at c.in-Ok-commit.ensures.ok) clean)

pub returns-in-Err-commit-clause-runs : goal.returns-in-Err-commit-clause-runs
returns-in-Err-commit-clause-runs g c h due =
    let w = c.args.writing.now in
    let same : c.commit.new.self.0 ≡ c.conn-2-1.given.0 = search rules in
    let made = subst (λ xs. Makes g.S.Store xs c.transaction-tx.result.conn.now c.fill.new.tx.conn.now (Ok c.in-Ok.field-0)) (statements_are w c.args.last h c.args.kept.now due.last_is)
    c.in-Ok.ensures.makes in
    committed_runs g.S.Store c.args.conn.now c.transaction-tx.result.conn.now c.fill.new.tx.conn.now c.confirm.new.tx.conn.now c.conn-2-1.given.0 c.transaction-tx.ensures.begun _ c.in-Ok.field-0 made
    c.in_ok-confirm.ensures.quiet (λ late. (c.in_ok-confirm.ensures.said late).2) (rw same at c.in-Err-commit.ensures.survives) (Err c.fault_of_writing-in-Err-commit.result) (λ clean. tt)
