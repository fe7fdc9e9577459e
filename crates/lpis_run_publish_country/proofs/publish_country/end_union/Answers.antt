use Rattle.std.proofs.lemmas.Result.{err_from_is_err_and}
use Rattle.lpis_run_publish_country.proofs.EndLemmas.{union_stopped, union_written}
use Rattle.lpis_run_publish_country.proofs.publish_country.end_union.Goals as goal

pub returns-in_err-answer : goal.returns-in_err-answer
returns-in_err-answer g c = λ asked said regions to.
    let told = c.in_err-answer.ensures asked said regions to in
    let p = err_from_is_err_and c.from_residual.result c.from_residual.ensures.1 in
    rw (p.1, p.2) (union_stopped g.S.Store asked said regions c.args.register.now c.publish_union.new.register (g.W.Write.contents c.args.out.now)
    _ told.leaves.failure told.leaves.stored)

pub returns : goal.returns
returns g c = λ asked said regions to.
    let told = c.in_ok-answer.ensures asked said regions to in
    union_written g.S.Store asked said regions c.args.register.now c.publish_union.new.register (g.W.Write.contents c.args.out.now)
    (g.W.Write.contents c.write_to.new.out) c.in_ok-answer.answer c.write_to.result told.answer told.leaves c.write_to.ensures.status c.write_to.ensures.text c.write_to.ensures.failure
