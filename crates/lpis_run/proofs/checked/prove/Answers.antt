use Rattle.lpis_run.specs.CheckAnswer.{IsCheckAnswer}
use Rattle.lpis_run.proofs.CheckLemmas.{stop-of-taken}
use Rattle.lpis_run.proofs.checked.prove.Goals as goal

pub returns-clause-refused : goal.returns-clause-refused
returns-clause-refused c =
    stop-of-taken c.args.release.now (λ k. IsCheckAnswer c.args.release.now k (λ _. ⊥)) c.args.named c.in_ok-cert.cert c.in-Err.stop c.in_ok-cert.ensures.taken c.in-Err.ensures.refused
