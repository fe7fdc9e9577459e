use Rattle.lpis_checker.proofs.FaultLemmas.{all_good}
use Rattle.lpis_checker.proofs.SoundMapLemmas.{good_means_sound}
use Rattle.lpis_checker.specs.private.Searches.{HoldUntil, all_searches}
use Rattle.lpis_checker.proofs.checking.check.Goals as goal

pub invariant_of-result : goal.invariant_of-result
invariant_of-result g c =
    let below : HoldUntil c.args.release.now c.args.cert.now all_searches = rw c.in-None.is at c.in_ok-found.ensures in
    (c.args.cert.now, all_good c.args.release.now c.args.cert.now below)

pub returns-in-None-clause-good : goal.returns-in-None-clause-good
returns-in-None-clause-good g c =
    let below : HoldUntil c.args.release.now c.args.cert.now all_searches = rw c.in-None.is at c.in_ok-found.ensures in
    all_good c.args.release.now c.args.cert.now below

pub returns-in-None-clause-sound : goal.returns-in-None-clause-sound
returns-in-None-clause-sound g c =
    let below : HoldUntil c.args.release.now c.args.cert.now all_searches = rw c.in-None.is at c.in_ok-found.ensures in
    good_means_sound c.args.release.now c.args.cert.now c.parcels.ensures.distinct (all_good c.args.release.now c.args.cert.now below)
