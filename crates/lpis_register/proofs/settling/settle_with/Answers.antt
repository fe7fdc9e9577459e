use Rattle.std.proofs.Common.{◌≡◌, ◌∙◌, ap, false, rules, subst, sym}
use Rattle.lpis_register_sql.specs.Hiding.{hides_table}
use Rattle.lpis_register_sql.specs.Presence.{AreThere}
use Rattle.lpis_register.proofs.SettlingLemmas.{said_settles, uncommitted_settles, unmade_settles, unsaid_settles}
use Rattle.lpis_register.proofs.settling.settle_with.Goals as goal

pub returns-in-Err-clause-settles : goal.returns-in-Err-clause-settles
returns-in-Err-clause-settles g c =
    let same : c.drop-tx.new.self.0 ≡ c.conn-1.given.0 = search rules in
    let found = c.tables_in-found in
    rw (← same) (unmade_settles g.S.Store c.args.version c.args.told.now.history c.args.told.now.shapes.items c.args.conn.now found.result
    (subst (λ s. AreThere s found.result) c.schema.ensures.value found.ensures.there) c.args.spans.now c.requires.spans c.transaction-tx.result.conn.now c.settle_tables.new.tx.conn.now
    c.transaction-tx.ensures.begun c.drop-tx.new.self.0 c.in-Err.error c.fault_of.result c.fault_of.ensures.memory c.fault_of.ensures.failure c.in-Err.ensures.makes c.drop-tx.ensures.survives
    c.drop-tx.ensures.undone)

pub returns-in-Err-confirm-clause-settles : goal.returns-in-Err-confirm-clause-settles
returns-in-Err-confirm-clause-settles g c =
    let same : c.drop-tx-in-Err-confirm.new.self.0 ≡ c.conn-in-Err-confirm-1.given.0 = search rules in
    let found = c.tables_in-found in
    let seen : hides_table c.args.conn.now.schema ≡ false = ap hides_table (sym c.schema.ensures.value) ∙ sym found.ensures.hidden ∙ c.if-found.false in
    rw (← same) (unsaid_settles g.S.Store c.args.version c.args.told.now.history c.args.told.now.shapes.items c.args.conn.now found.result
    (subst (λ s. AreThere s found.result) c.schema.ensures.value found.ensures.there) c.args.spans.now c.requires.spans c.transaction-tx.result.conn.now c.settle_tables.new.tx.conn.now
    c.transaction-tx.ensures.begun c.in-Ok.field-0 c.in-Ok.ensures.makes (λ up. (c.schema.ensures.live up).0) c.in-Ok.ensures.tables seen c.confirm.new.tx.conn.now c.in-Err-confirm.ensures.quiet
    c.drop-tx-in-Err-confirm.new.self.0 c.fault_of_confirming.result c.fault_of_confirming.ensures.failure
    (λ late up is. (rw (c.as_slice.ensures.value, c.completed-complete.ensures) at (c.in-Err-confirm.ensures.cause late up)) (c.fault_of_confirming.ensures.store is))
    c.drop-tx-in-Err-confirm.ensures.survives c.drop-tx-in-Err-confirm.ensures.undone)

pub returns-in-Ok-commit-clause-settles : goal.returns-in-Ok-commit-clause-settles
returns-in-Ok-commit-clause-settles g c =
    let same : c.commit.new.self.0 ≡ c.conn-2-1.given.0 = search rules in
    let found = c.tables_in-found in
    let seen : hides_table c.args.conn.now.schema ≡ false = ap hides_table (sym c.schema.ensures.value) ∙ sym found.ensures.hidden ∙ c.if-found.false in
    rw (← same) (said_settles g.S.Store c.args.version c.args.told.now.history c.args.told.now.shapes.items c.args.conn.now found.result
    (subst (λ s. AreThere s found.result) c.schema.ensures.value found.ensures.there) c.args.spans.now c.requires.spans c.transaction-tx.result.conn.now c.settle_tables.new.tx.conn.now
    c.transaction-tx.ensures.begun c.in-Ok.field-0 c.in-Ok.ensures.makes (λ up. (c.schema.ensures.live up).0) c.in-Ok.ensures.tables seen c.confirm.new.tx.conn.now c.in-Ok-confirm.ensures.quiet
    (rw (c.as_slice.ensures.value, c.completed-complete.ensures) at c.in-Ok-confirm.ensures.said) c.commit.new.self.0 c.in-Ok-commit.ensures.survives
    (λ up db may. g.met.S.Store.settled c.commit.new.self.0.store db up may) c.in-Ok-commit.field-0 tt c.in-Ok-commit.ensures.ok)

pub returns-in-Err-commit-clause-settles : goal.returns-in-Err-commit-clause-settles
returns-in-Err-commit-clause-settles g c =
    let same : c.commit.new.self.0 ≡ c.conn-2-1.given.0 = search rules in
    let found = c.tables_in-found in
    let seen : hides_table c.args.conn.now.schema ≡ false = ap hides_table (sym c.schema.ensures.value) ∙ sym found.ensures.hidden ∙ c.if-found.false in
    rw (← same) (uncommitted_settles g.S.Store c.args.version c.args.told.now.history c.args.told.now.shapes.items c.args.conn.now found.result
    (subst (λ s. AreThere s found.result) c.schema.ensures.value found.ensures.there) c.args.spans.now c.requires.spans c.transaction-tx.result.conn.now c.settle_tables.new.tx.conn.now
    c.transaction-tx.ensures.begun c.in-Ok.field-0 c.in-Ok.ensures.makes (λ up. (c.schema.ensures.live up).0) c.in-Ok.ensures.tables seen c.confirm.new.tx.conn.now c.in-Ok-confirm.ensures.quiet
    (rw (c.as_slice.ensures.value, c.completed-complete.ensures) at c.in-Ok-confirm.ensures.said) c.commit.new.self.0 c.in-Err-commit.ensures.survives
    (λ up db may. g.met.S.Store.settled c.commit.new.self.0.store db up may) c.in-Err-commit.error c.fault_of-in-Err-commit.result c.fault_of-in-Err-commit.ensures.memory
    c.fault_of-in-Err-commit.ensures.failure c.in-Err-commit.ensures.err)
