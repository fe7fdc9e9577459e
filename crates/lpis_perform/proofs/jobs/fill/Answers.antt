use Rattle.std.proofs.Common.{inl, inr, refl, subst}
use Rattle.std.proofs.lemmas.Result.{err_from_is_err_and}
use Rattle.lpis_run.specs.Folders.{submission_named}
use Rattle.lpis_run.specs.Outputs.{held, writer}
use Rattle.lpis_run.specs.Streams.{Known}
use Rattle.lpis_run.specs.declared.failure.Failure.TheVariants.{Memory}
use Rattle.lpis_run.specs.declared.folder.Submission.{Submission}
use Rattle.lpis_run_publish.specs.ExactAnswer.{RunsExact}
use Rattle.lpis_perform.proofs.OpeningLemmas.{memory_stops}
use Rattle.lpis_perform.proofs.jobs.fill.Goals as goal

pub returns-in_err-submission : goal.returns-in_err-submission
returns-in_err-submission g c =
    let p = err_from_is_err_and c.from_residual.result c.from_residual.ensures.1 in
    rw (p.1, p.2) (refl, inr (c.in_err-submission.ensures.failure, refl))

pub returns-in_err-filled : goal.returns-in_err-filled
returns-in_err-filled g c =
    let p = err_from_is_err_and c.from_residual-in_err-filled.result c.from_residual-in_err-filled.ensures.1 in
    let at = g.M.Machine.standing c.args.machine.now in
    rw (p.1, p.2) (refl, inr (memory_stops at (submission_named c.args.submission.now) Memory refl, refl))

pub returns : goal.returns
returns g c =
    let before = held (writer g.M.Created.Write.contents c.in_ok-filled.filled) (g.W.Write.contents c.args.out.now) in
    let after = held (writer g.M.Created.Write.contents c.run_exact.new.cert_out) (g.W.Write.contents c.run_exact.new.out) in
    let run = λ (given : Submission Known). RunsExact given c.args.register.now.held before after c.run_exact.result in (
      refl,
      inl (
        c.in_ok-submission.ensures.opened,
        (c.in_ok-filled.filled, c.run_exact.new.cert_out, c.in_ok-filled.ensures, subst run c.in_ok-submission.ensures.given c.run_exact.ensures.runs),
      ),
    )
