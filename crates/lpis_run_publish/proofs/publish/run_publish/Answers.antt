use Rattle.std.proofs.lemmas.Result.{IfErr-weaker, err_from_is_err_and}
use Rattle.lpis_run.specs.declared.failure.Name.TheVariants.{Out}
use Rattle.lpis_run.proofs.Shared.{write_names_none}
use Rattle.lpis_run_publish.specs.private.Submitting.{submission_of}
use Rattle.lpis_run_publish.proofs.RunLemmas.{runs-failed, runs-unread, runs-written}
use Rattle.lpis_run_publish.proofs.ReaderLemmas.{store_names_none, submission_unnamed}
use Rattle.lpis_run_publish.proofs.publish.run_publish.Goals as goal

pub returns-in_err-bytes-clause-runs : goal.returns-in_err-bytes-clause-runs
returns-in_err-bytes-clause-runs g c =
    let p = err_from_is_err_and c.from_residual.result c.from_residual.ensures.1 in
    rw (p.1, p.2) (runs-unread g.S.Store c.args.year _ c.args.register.now (g.W.Write.contents c.args.out.now) _ c.in_err-bytes.ensures.failure)

pub returns-in_err-answer-clause-runs : goal.returns-in_err-answer-clause-runs
returns-in_err-answer-clause-runs g c =
    let p = err_from_is_err_and c.from_residual-in_err-answer.result c.from_residual-in_err-answer.ensures.1 in
    let told = c.in_err-answer.ensures in
    rw (p.1, p.2) (runs-failed g.S.Store c.args.year _ c.args.register.now c.answer_to.new.register (g.W.Write.contents c.args.out.now)
    (submission_of c.in_ok-bytes.bytes) _ c.in_ok-bytes.ensures.read told.leaves.failure told.leaves.stored)

pub returns-clause-runs : goal.returns-clause-runs
returns-clause-runs g c =
    let a = c.in_ok-answer.answer in
    let told = c.in_ok-answer.ensures in
    runs-written g.S.Store c.args.year _ c.args.register.now c.answer_to.new.register (g.W.Write.contents c.args.out.now) (g.W.Write.contents c.write_to.new.out)
    (submission_of c.in_ok-bytes.bytes) a.text.items a.status a c.write_to.result
    c.in_ok-bytes.ensures.read told.answer told.moves told.leaves.stored c.write_to.ensures.status c.write_to.ensures.text c.write_to.ensures.failure

pub returns-in_err-answer-clause-untouched : goal.returns-in_err-answer-clause-untouched
returns-in_err-answer-clause-untouched g c =
    let p = err_from_is_err_and c.from_residual-in_err-answer.result c.from_residual-in_err-answer.ensures.1 in
    let told = c.in_err-answer.ensures in
    rw (p.1, p.2)
    (submission_unnamed c.args.submission.now c.read_submission.new.submission c.in_err-answer.field-0.0 c.read_submission.ensures.named
    (store_names_none c.in_err-answer.field-0.0 told.leaves.failure.0))

pub returns-clause-untouched : goal.returns-clause-untouched
returns-clause-untouched g c =
    IfErr-weaker c.write_to.result _ _
    (λ f part. submission_unnamed c.args.submission.now c.read_submission.new.submission f c.read_submission.ensures.named (write_names_none Out f part.0)) c.write_to.ensures.failure
