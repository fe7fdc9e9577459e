use Rattle.std.proofs.Common.{◌++◌, ◌∙◌, Ok, subst, sym}
use Rattle.std.proofs.lemmas.List.{append_assoc}
use Rattle.lpis_register_sql.specs.Within.{Makes}
use Rattle.lpis_register_sql.specs.private.StepStatements.{statements_in, statements_left}
use Rattle.lpis_register_sql.proofs.MakingLemmas.{loop_fails}
use Rattle.lpis_register_sql.proofs.ReleaseLemmas.{done_more, nothing_left}
use Rattle.lpis_register_sql.proofs.StopLemmas.{then}
use Rattle.lpis_register_sql.proofs.writing.write_steps.Goals as goal

pub each-preserved : goal.each-preserved
each-preserved g c =
    let inv = c.each.invariant in
    let more = statements_in c.in-Some.step in (
      c.write_step.ensures.same_reference ∙ inv.0,
      (
        inv.1.0 ++ more,
        done_more inv.1.0 more (statements_left c.each.rest) (statements_left c.in-Some.next) (statements_left c.args.steps) inv.1.1 c.in-Some.ensures.statements,
        then inv.1.2 c.in_ok-write_step.ensures.makes,
      ),
    )

pub returns-in_err-write_step-clause-makes : goal.returns-in_err-write_step-clause-makes
returns-in_err-write_step-clause-makes g c =
    let inv = c.each.invariant in
    let more = statements_in c.in-Some.step in
    loop_fails (statements_left c.in-Some.next) (statements_left c.args.steps) c.from_residual.ensures.1
    (sym (append_assoc inv.1.0 more (statements_left c.in-Some.next))
    ∙ done_more inv.1.0 more (statements_left c.each.rest) (statements_left c.in-Some.next) (statements_left c.args.steps) inv.1.1 c.in-Some.ensures.statements)
    inv.1.2 c.in_err-write_step.ensures.makes

pub returns-clause-makes : goal.returns-clause-makes
returns-clause-makes g c =
    let inv = c.each.invariant in
    subst (λ xs. Makes g.S.Store xs c.args.tx.now.conn.now c.each.tx.conn.now (Ok tt))
    (nothing_left inv.1.0 (statements_left c.each.rest) (statements_left c.args.steps) inv.1.1 c.in_default.ensures.statements) inv.1.2
