use Rattle.std.proofs.Common.{refl, inr}
use Rattle.lpis_cert.proofs.StepLemmas.{place_fault}
use Rattle.lpis_cert.proofs.lines.placed_line.Goals as goal

pub returns-in-Err : goal.returns-in-Err
returns-in-Err c = (refl, inr (c.in-Some.line.now, c.in-Some.after.text.now, c.in-Some.ensures.split, place_fault c.args.version c.args.expected c.in-Some.line.now c.in-Err.code c.in-Err.ensures.err))
