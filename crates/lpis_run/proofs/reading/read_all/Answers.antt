use Rattle.std.proofs.Common.{arith}
use Rattle.lpis_run.proofs.ReadLemmas.{given_over, given_within}
use Rattle.lpis_run.proofs.reading.read_all.Goals as goal

pub returns-then-count-limit-clause-part : goal.returns-then-count-limit-clause-part
returns-then-count-limit-clause-part g c =
    given_over _ _ _ _ _ c.in-Ok-read.count c.args.limit c.loop.invariant.0 c.in-Ok-read.ensures.bytes.0 c.in-Ok-read.ensures.bound.0 (omega arith) (omega arith)

pub returns-then-is_err-clause-part : goal.returns-then-is_err-clause-part
returns-then-is_err-clause-part g c =
    given_within _ _ _ _ _ c.in-Ok-read.count c.args.limit c.loop.invariant.0 c.in-Ok-read.ensures.bytes.0 c.in-Ok-read.ensures.bound.0 (omega arith) (omega arith)
