use Rattle.lpis_checker.proofs.OffLinesLemmas.{turns_add}
use Rattle.lpis_checker.proofs.FaultLemmas.{parts_hold}
use Rattle.lpis_checker.proofs.SoundMapLemmas.{areas_add}
use Rattle.lpis_checker.specs.private.Searches.{HoldUntil, part_searches}
use Rattle.lpis_checker.proofs.checking.check_parts.Goals as goal

pub returns-in-None-clause-areas : goal.returns-in-None-clause-areas
returns-in-None-clause-areas c =
    let below : HoldUntil c.args.release.now c.args.cert.now part_searches = rw c.in-None.is at c.in_ok-found.ensures in
    areas_add c.args.release.now c.args.cert.now (parts_hold c.args.release.now c.args.cert.now below)

pub returns-in-None-clause-turns : goal.returns-in-None-clause-turns
returns-in-None-clause-turns c =
    let below : HoldUntil c.args.release.now c.args.cert.now part_searches = rw c.in-None.is at c.in_ok-found.ensures in
    turns_add c.args.release.now c.args.cert.now (parts_hold c.args.release.now c.args.cert.now below)
