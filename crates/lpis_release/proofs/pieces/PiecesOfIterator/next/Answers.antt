use Rattle.std.proofs.Common.{length, ap, arith}
use Rattle.lpis_release.proofs.Common.{joined_pieces}
use Rattle.lpis_release.proofs.IndexLemmas.{next-at, others-within}
use Rattle.lpis_release.proofs.pieces.PiecesOfIterator.next.Goals as goal

pub invariant_of-self : goal.invariant_of-self
invariant_of-self c = others-within (length c.self.inside.pieces.now) c.in_ok-first.first.now.piece (joined_pieces c.self.inside.joins.now) (joined_pieces c.in_ok-first.others.now)
    (ap joined_pieces c.in_ok-first.ensures.cases.0) c.self.invariant

pub returns-clause-steps : goal.returns-clause-steps
returns-clause-steps c =
    next-at c.self.inside.pieces.now c.args.self.now (joined_pieces c.self.inside.joins.now) (joined_pieces c.in_ok-first.others.now)
    c.in_ok-first.first.now.piece c.piece_at-piece.result.now c.self.view_is (ap joined_pieces c.in_ok-first.ensures.cases.0)
    c.piece_at-piece.ensures

pub returns-clause-goes : goal.returns-clause-goes
returns-clause-goes c =
    let step = next-at c.self.inside.pieces.now c.args.self.now (joined_pieces c.self.inside.joins.now) (joined_pieces c.in_ok-first.others.now)
    c.in_ok-first.first.now.piece c.piece_at-piece.result.now c.self.view_is (ap joined_pieces c.in_ok-first.ensures.cases.0)
    c.piece_at-piece.ensures in
    record { on = λ _. (tt, tt, omega (arith, ap length step)); keeps = tt; rests = λ _. tt }
