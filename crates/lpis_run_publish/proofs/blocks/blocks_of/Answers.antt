use Rattle.std.proofs.Common.{arith}
use Rattle.std.proofs.lemmas.Grind.{common_steps}
use Rattle.std.proofs.lemmas.Result.{err_from_is_err_and}
use Rattle.lpis_run_publish.proofs.BlocksLemmas.{flats-more, of-one}
use Rattle.lpis_run_publish.proofs.blocks.blocks_of.Goals as goal

pub returns-in_err-block-clause-fault : goal.returns-in_err-block-clause-fault
returns-in_err-block-clause-fault c =
    let p = err_from_is_err_and c.from_residual-in_err-block.result c.from_residual-in_err-block.ensures.1 in
    rw (p.1, p.2) (of-one c.args.parts.now c.loop-part.part-index c.part-item.result _ c.loop-part-test.true c.part-item.is c.loop-part.invariant.shown c.in_err-block.ensures.fault)

pub loop-part-preserved : goal.loop-part-preserved
loop-part-preserved c = record {
  shown = flats-more c.args.parts.now c.loop-part.part-index c.part-item.result c.loop-part-test.true c.part-item.is c.loop-part.invariant.shown
      (c.in_ok-block.block.flats, c.in_ok-block.ensures.shown);
  names = grind (arith, common_steps);
  few = grind (arith, common_steps);
}
