use Rattle.std.proofs.Common.{arith}
use Rattle.lpis_checker.specs.declared.condition.Site.TheVariants.{Order}
use Rattle.lpis_checker.proofs.FaultLemmas.{first_pair, no_pair}
use Rattle.lpis_checker.proofs.first_fault.failing_pair.Goals as goal

pub unnamed_pair-requires-clause-ordered : goal.unnamed_pair-requires-clause-ordered
unnamed_pair-requires-clause-ordered c = λ k. c.requires.parts.holds (Order k) (omega arith)

pub returns-in-Some : goal.returns-in-Some
returns-in-Some c = (omega arith, first_pair c.args.release.now c.args.cert.now c.requires.parts c.in-Some.i c.in-Some.j c.in-Some.ensures.0 c.in-Some.ensures.1)

pub returns-in-None : goal.returns-in-None
returns-in-None c = no_pair c.args.release.now c.args.cert.now c.requires.parts c.in-None.ensures
