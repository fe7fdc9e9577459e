use Rattle.std.proofs.lemmas.Result.{err_from_is_err_and}
use Rattle.lpis_run_publish.specs.private.Submitting.{submission_of}
use Rattle.lpis_run_publish.proofs.SubmissionLemmas.{stop-of-inputs, stop-of-rows}
use Rattle.lpis_run_publish.proofs.submission.submission_in.Goals as goal

pub returns-in_err-read-clause-refused : goal.returns-in_err-read-clause-refused
returns-in_err-read-clause-refused c =
    let p = err_from_is_err_and c.from_residual.result c.from_residual.ensures.1 in
    rw (p.1, p.2) (stop-of-inputs (submission_of c.args.submission) _ c.in_err-read.ensures.refused)

pub returns-in_err-rows-clause-refused : goal.returns-in_err-rows-clause-refused
returns-in_err-rows-clause-refused c =
    let p = err_from_is_err_and c.from_residual-in_err-rows.result c.from_residual-in_err-rows.ensures.1 in
    rw (p.1, p.2) (stop-of-rows (submission_of c.args.submission) _ _ _ c.in_ok-read.ensures.said c.in_err-rows.ensures.refused)
