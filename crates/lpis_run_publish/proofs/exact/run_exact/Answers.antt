use Rattle.std.proofs.Common.{inl, refl}
use Rattle.std.proofs.lemmas.Result.{IfErr-weaker, err_from_is_err_and}
use Rattle.lpis_run.specs.declared.failure.Failure.TheVariants.{Memory}
use Rattle.lpis_run.proofs.Shared.{both_stopped, both_written, memory_names_none}
use Rattle.lpis_run.specs.Outputs.{held, outputs_of, writer}
use Rattle.lpis_run_publish.specs.private.Submitting.{submission_of}
use Rattle.lpis_run_publish.proofs.ReaderLemmas.{broken_names_none, submission_unnamed}
use Rattle.lpis_run_publish.proofs.exact.run_exact.Goals as goal

pub returns-in_err-bytes-clause-runs : goal.returns-in_err-bytes-clause-runs
returns-in_err-bytes-clause-runs g c =
    let p = err_from_is_err_and c.from_residual.result c.from_residual.ensures.1 in
    rw (p.1, p.2) (both_stopped _ _ (held (writer g.V.Write.contents c.args.cert_out.now) (g.W.Write.contents c.args.out.now)) _ c.in_err-bytes.ensures.failure)

pub returns-in_err-outcome-clause-runs : goal.returns-in_err-outcome-clause-runs
returns-in_err-outcome-clause-runs g c =
    let p = err_from_is_err_and c.from_residual-in_err-outcome.result c.from_residual-in_err-outcome.ensures.1 in
    rw (p.1, p.2) (both_stopped _ _ (held (writer g.V.Write.contents c.args.cert_out.now) (g.W.Write.contents c.args.out.now)) _ (inl (inl refl)))

pub returns-clause-runs : goal.returns-clause-runs
returns-clause-runs g c =
    let a = outputs_of c.in_ok-outcome.outcome in
    both_written _ _ a _ _ c.write_to.result (submission_of c.in_ok-bytes.bytes, c.in_ok-bytes.ensures.read, c.in_ok-outcome.ensures) c.write_to.ensures.answer c.write_to.ensures.failure

pub returns-in_err-outcome-clause-untouched : goal.returns-in_err-outcome-clause-untouched
returns-in_err-outcome-clause-untouched g c =
    let p = err_from_is_err_and c.from_residual-in_err-outcome.result c.from_residual-in_err-outcome.ensures.1 in
    rw (p.1, p.2) (submission_unnamed c.args.submission.now c.read_submission.new.submission Memory c.read_submission.ensures.named (memory_names_none Memory refl))

pub returns-clause-untouched : goal.returns-clause-untouched
returns-clause-untouched g c =
    IfErr-weaker c.write_to.result _ _
    (λ f broken. submission_unnamed c.args.submission.now c.read_submission.new.submission f c.read_submission.ensures.named
    (broken_names_none (outputs_of c.in_ok-outcome.outcome) f _ _ broken)) c.write_to.ensures.failure
