use Rattle.std.proofs.Common.{inl, inr, refl, subst}
use Rattle.std.proofs.lemmas.Result.{err_from_is_err_and}
use Rattle.lpis_run.specs.Streams.{Known}
use Rattle.lpis_run.specs.declared.folder.Submission.{Submission}
use Rattle.lpis_run_publish.specs.PublishAnswer.{RunsPublish}
use Rattle.lpis_perform.proofs.jobs.publish.Goals as goal

pub returns-in_err-submission : goal.returns-in_err-submission
returns-in_err-submission g c =
    let p = err_from_is_err_and c.from_residual.result c.from_residual.ensures.1 in
    rw (p.1, p.2) (inr (c.in_err-submission.ensures.failure, refl))

pub returns : goal.returns
returns g c =
    let run = λ (given : Submission Known).
    RunsPublish g.S.Store c.args.year given c.args.register.now c.run_publish.new.register (g.W.Write.contents c.args.out.now) (g.W.Write.contents c.run_publish.new.out)
    c.run_publish.result in
    inl (c.in_ok-submission.ensures.opened, subst run c.in_ok-submission.ensures.given c.run_publish.ensures.runs)
