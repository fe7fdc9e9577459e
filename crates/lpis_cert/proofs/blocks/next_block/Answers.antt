use Rattle.std.proofs.Common.{refl}
use Rattle.lpis_cert.proofs.Common.{err_from_is_err_and, Block, draft_state}
use Rattle.lpis_cert.proofs.StepLemmas.{fault_here}
use Rattle.lpis_cert.proofs.blocks.next_block.Goals as goal

pub piece_block-requires-clause-begins : goal.piece_block-requires-clause-begins
piece_block-requires-clause-begins c = let is = c.in-Piece.is in rw is at c.in_ok-head.ensures.ok

pub flat_block-requires-clause-begins : goal.flat_block-requires-clause-begins
flat_block-requires-clause-begins c = let is = c.in-Flats.is in rw is at c.in_ok-head.ensures.ok

pub returns-in-Pairs-clause-ok : goal.returns-in-Pairs-clause-ok
returns-in-Pairs-clause-ok c = let is = c.in-Pairs.is in (refl, rw is at c.in_ok-head.ensures.ok)

pub returns-in_err-head-clause-err : goal.returns-in_err-head-clause-err
returns-in_err-head-clause-err c =
    let p = err_from_is_err_and c.from_residual.result c.from_residual.ensures.1 in
    rw (p.1, p.2) (fault_here c.args.draft.now.version c.in_err-head.field-0.0 c.args.rest.line (draft_state c.args.draft.now) (Block c.args.draft.now.stage)
    c.args.rest.text.now refl c.in_err-head.ensures.err)
