use Rattle.std.proofs.Common.{rules}
use Rattle.lpis_run.proofs.AreasLemmas.{areas_of_both}
use Rattle.lpis_run.proofs.areas.Areas.plus.Goals as goal

pub returns : goal.returns
returns c r ks ls of also = areas_of_both r ks ls c.args.self c.args.other _ (search rules) (search rules) of also
