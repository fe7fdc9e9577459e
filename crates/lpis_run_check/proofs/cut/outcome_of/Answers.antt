use Rattle.std.proofs.Common.{◌∙◌, ap₂, List, Some, ℕ}
use Rattle.std.proofs.lemmas.Result.{IfOk-weaker}
use Rattle.lpis_cert.specs.Contents.{cert_text}
use Rattle.lpis_run.specs.Outputs.{Outputs}
use Rattle.lpis_run_check.proofs.cut.outcome_of.Goals as goal

pub returns : goal.returns
returns c =
    let made : List ℕ → ℕ → Outputs = λ line status. record { cert = Some (cert_text c.args.cert.now); line = line; status = status } in
    IfOk-weaker c.with_cert.result _ _ (λ o is. (c.args.cert.now, is ∙ ap₂ made c.in_ok-printed.ensures.0 c.in_ok-printed.ensures.1)) c.with_cert.ensures
