use Rattle.std.proofs.Common.{inr, refl}
use Rattle.lpis_run_publish.proofs.LeavingLemmas.{leaves_unreached}
use Rattle.lpis_run_publish.proofs.Common.{IfOk-weaker}
use Rattle.lpis_run_publish.specs.PublishAnswer.{candidate_of}
use Rattle.lpis_run_publish.proofs.publish.publish_checked.Goals as goal

pub returns-in-Ok-clause-answer : goal.returns-in-Ok-clause-answer
returns-in-Ok-clause-answer g c =
    let candidate = candidate_of c.args.year c.args.yes.now c.args.rows.now c.args.cert.now in
    IfOk-weaker c.publish_reported.result _ _ (λ a told. inr told) (c.publish_reported.ensures candidate c.in-Ok.ensures.made).answer

pub returns-in-Ok-clause-published : goal.returns-in-Ok-clause-published
returns-in-Ok-clause-published g c =
    let candidate = candidate_of c.args.year c.args.yes.now c.args.rows.now c.args.cert.now in
    IfOk-weaker c.publish_reported.result _ _ (λ a it is. it) (c.publish_reported.ensures candidate c.in-Ok.ensures.made).published

pub returns-in-Ok-clause-leaves : goal.returns-in-Ok-clause-leaves
returns-in-Ok-clause-leaves g c =
    (c.publish_reported.ensures (candidate_of c.args.year c.args.yes.now c.args.rows.now c.args.cert.now) c.in-Ok.ensures.made).leaves

pub returns-in-Err-Memory-clause-leaves : goal.returns-in-Err-Memory-clause-leaves
returns-in-Err-Memory-clause-leaves g c = leaves_unreached g.S.Store _ c.args.register.now _ refl
