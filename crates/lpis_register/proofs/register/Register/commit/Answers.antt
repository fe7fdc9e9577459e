use Rattle.std.proofs.Common.{ap, refl}
use Rattle.lpis_register.proofs.CommittingLemmas.{stored_err, stored_ok}
use Rattle.lpis_register.proofs.FailingLemmas.{fails_as}
use Rattle.lpis_register.proofs.ResultLemmas.{failure_refused}
use Rattle.lpis_register.proofs.RunningLemmas.{runs_err, runs_ok}
use Rattle.lpis_register.specs.Holdings.{holdings}
use Rattle.lpis_register.specs.private.Writes.{written}
use Rattle.lpis_register.proofs.register.Register.commit.Goals as goal

pub returns-in-Ok-clause-publishes : goal.returns-in-Ok-clause-publishes
returns-in-Ok-clause-publishes g c = rw (← c.self.view_is) (λ x made. record {
  tells = (made.prepared.later, made.shown);
  change = made.prepared.step_is.change_is;
  follows = (c.in-Ok.ensures.commits x made.prepared).follows;
  exact = made.exact;
  once = made.once;
  refused = tt;
})

pub returns-in-Err-clause-publishes : goal.returns-in-Err-clause-publishes
returns-in-Err-clause-publishes g c = rw (← c.self.view_is) (λ x made. record {
  tells = failure_refused x (holdings c.self.inside.history c.self.inside.shapes.items) _ _ c.in-Err.ensures.failure.untouched;
  change = tt;
  follows = tt;
  exact = tt;
  once = tt;
  refused = ap (λ h. holdings h c.self.inside.shapes.items) (c.in-Err.ensures.commits x made.prepared).refused;
})

pub returns-in-Ok-clause-stores : goal.returns-in-Ok-clause-stores
returns-in-Ok-clause-stores g c = rw (← c.self.view_is) (λ x made.
    stored_ok g.S.Store x _ _ (written c.args.accepted.writing c.commit_release.new.history) _ _ refl
    (rw c.as_slice-kept.ensures.value at (c.in-Ok.ensures.commits x made.prepared)))

pub returns-in-Err-clause-stores : goal.returns-in-Err-clause-stores
returns-in-Err-clause-stores g c = rw (← c.self.view_is) (λ x made.
    stored_err g.S.Store x _ _ (written c.args.accepted.writing c.commit_release.new.history) _
    (rw c.as_slice-kept.ensures.value at (c.in-Err.ensures.commits x made.prepared)))

pub returns-in-Err-clause-untouched : goal.returns-in-Err-clause-untouched
returns-in-Err-clause-untouched g c = rw (← c.self.view_is) c.in-Err.ensures.failure.untouched

pub returns-in-Err-clause-cause : goal.returns-in-Err-clause-cause
returns-in-Err-clause-cause g c =
    fails_as g.S.Store c.args.accepted.writing (record { conn = c.self.inside.conn; held = holdings c.self.inside.history c.self.inside.shapes.items }) c.args.self.now
    c.commit_release.new.conn c.in-Err.fault c.self.view_is (rw c.as_slice-kept.ensures.value at c.in-Err.ensures.failure)

pub returns-in-Ok-clause-runs : goal.returns-in-Ok-clause-runs
returns-in-Ok-clause-runs g c =
    runs_ok g.S.Store c.args.accepted.writing (record { conn = c.self.inside.conn; held = holdings c.self.inside.history c.self.inside.shapes.items }) c.args.self.now c.commit_release.new.conn
    c.self.view_is _ _ (rw c.as_slice-kept.ensures.value at c.in-Ok.ensures.runs)

pub returns-in-Err-clause-runs : goal.returns-in-Err-clause-runs
returns-in-Err-clause-runs g c =
    runs_err g.S.Store c.args.accepted.writing (record { conn = c.self.inside.conn; held = holdings c.self.inside.history c.self.inside.shapes.items }) c.args.self.now c.commit_release.new.conn
    c.self.view_is c.in-Err.fault (rw c.as_slice-kept.ensures.value at c.in-Err.ensures.runs)
