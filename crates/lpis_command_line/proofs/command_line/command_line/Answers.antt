use Rattle.lpis_command_line.proofs.CommandLineLemmas.{line-more}
use Rattle.lpis_command_line.proofs.command_line.command_line.Goals as goal

pub loop-line-preserved : goal.loop-line-preserved
loop-line-preserved c = line-more c.loop-line.whole c.made.result c.joined-whole.result _ c.loop-line.line-index _ c.loop-line-test.true c.loop-line.invariant c.made.ensures c.joined-whole.ensures
