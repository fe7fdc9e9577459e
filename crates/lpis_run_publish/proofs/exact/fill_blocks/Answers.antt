use Rattle.lpis_run_publish.proofs.exact.fill_blocks.Goals as goal

pub returns-clause-filled : goal.returns-clause-filled
returns-clause-filled g c =
    (rw c.current_shapes.ensures.kept at c.in_ok-outcome.ensures) c.args.register.now.held.history c.args.rows.now (rw c.current.ensures at c.in_ok-change.ensures.change)
