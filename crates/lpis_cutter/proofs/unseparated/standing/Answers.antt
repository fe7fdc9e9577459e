use Rattle.lpis_cutter.proofs.StandingLemmas.{stands}
use Rattle.lpis_cutter.proofs.unseparated.standing.Goals as goal

pub returns-then-rest-own : goal.returns-then-rest-own
returns-then-rest-own c =
    stands c.args.cert.now.pieces c.as_slice-parts.result.now c.loop-index.index c.loop-index.rest c.args.number c.standing_in.result
    c.as_slice-parts.ensures c.loop-index.invariant c.standing_in.ensures
