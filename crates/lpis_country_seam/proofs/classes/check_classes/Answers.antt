use Rattle.lpis_country_seam.proofs.ReportLemmas.{classes-short}
use Rattle.lpis_country_seam.proofs.classes.check_classes.Goals as goal

pub returns-in_default : goal.returns-in_default
returns-in_default c = classes-short c.args.own.now c.args.all.now c.loop-k.rest.now c.loop-k.k c.loop-k.invariant c.loop-k-test.true c.in_default.ensures.cases
