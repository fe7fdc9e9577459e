use Rattle.std.proofs.Common.{◌∙◌, inr, refl, sym}
use Rattle.lpis_register.proofs.Common.{state}
use Rattle.lpis_register.proofs.CommittingLemmas.{not_begun}
use Rattle.lpis_register.proofs.FailingLemmas.{fails_to_commit}
use Rattle.lpis_register.proofs.RunningLemmas.{none_run}
use Rattle.lpis_register.specs.Failing.{writing_statements}
use Rattle.lpis_register.specs.Holdings.{holdings}
use Rattle.lpis_register.specs.private.Writes.{written}
use Rattle.lpis_register.proofs.committing.commit_release.Goals as goal

pub returns-in-Ok-clause-commits : goal.returns-in-Ok-clause-commits
returns-in-Ok-clause-commits g c x made =
    c.write_or_take_back.ensures.commits c.args.history.now
    (record { candidate = x; live = c.args.live; made = made; follows = c.in-Ok.ensures.grows x made; last_is = c.last_year-last.ensures })

pub returns-in-Err-clause-commits : goal.returns-in-Err-clause-commits
returns-in-Err-clause-commits g c x made =
    not_begun x (holdings c.args.history.now c.args.kept.now) (written c.args.writing.now _) (state g.S.Store c.args.conn.now) c.in-Err.ensures.refused _

pub returns-in-Ok-clause-failure : goal.returns-in-Ok-clause-failure
returns-in-Ok-clause-failure g c =
    let made = c.requires.made in
    fails_to_commit g.S.Store c.args.writing.now (holdings c.args.history.now c.args.kept.now) c.args.conn.now c.write_or_take_back.new.conn c.write_or_take_back.result
    c.write_or_take_back.ensures.failure (c.write_or_take_back.ensures.cause c.args.history.now
    (record { candidate = made.0; live = c.args.live; made = made.1; follows = c.in-Ok.ensures.grows made.0 made.1; last_is = c.last_year-last.ensures }))

pub returns-in-Err-clause-failure : goal.returns-in-Err-clause-failure
returns-in-Err-clause-failure g c = record {
  untouched = inr (c.in-Err.ensures.memory, refl);
  cause = λ clean failed. absurd (let is = sym c.in-Err.ensures.memory ∙ failed in cc);
}

pub returns-in-Err-clause-runs : goal.returns-in-Err-clause-runs
returns-in-Err-clause-runs g c = none_run g.S.Store (writing_statements c.args.writing.now (holdings c.args.history.now c.args.kept.now)) c.args.conn.now _

pub returns-in-Ok-clause-runs : goal.returns-in-Ok-clause-runs
returns-in-Ok-clause-runs g c =
    let made = c.requires.made in
    c.write_or_take_back.ensures.runs c.args.history.now
    (record { candidate = made.0; live = c.args.live; made = made.1; follows = c.in-Ok.ensures.grows made.0 made.1; last_is = c.last_year-last.ensures })
