use Rattle.std.proofs.Common.{◌≡◌}
use Rattle.std.proofs.lemmas.Result.{err_from_is_err_and}
use Rattle.lpis_run_publish.proofs.LeavingLemmas.{leaves_unreached}
use Rattle.lpis_run_publish.proofs.publish.publish_reported.Goals as goal

pub returns : goal.returns
returns g c = rw (c.in_ok-head.ensures, c.release.ensures.is) at c.publish_accepted.ensures.publishes

pub returns-in_err-head : goal.returns-in_err-head
returns-in_err-head g c = λ candidate made.
    let p = err_from_is_err_and c.from_residual.result c.from_residual.ensures.1 in
    rw p.1 (record {
      answer = tt;
      published = tt;
      leaves = leaves_unreached g.S.Store (λ asked. asked ≡ candidate) c.args.register.now p.0 p.2;
    })
