use Rattle.lpis_register.proofs.CommittingLemmas.{follows_as}
use Rattle.lpis_register.proofs.committing.grow.Goals as goal

pub returns-in-Ok-clause-grows : goal.returns-in-Ok-clause-grows
returns-in-Ok-clause-grows c x made =
    follows_as x c.args.history.now c.extend-added.new.self (record { live = c.args.live; writing = c.args.writing.now }) c.in-Ok.ensures.ok
    c.releases.ensures.lawful c.releases.ensures.fits made
