use Rattle.lpis_register.proofs.ComparingLemmas.{alike_all}
use Rattle.lpis_register.proofs.comparing.is_same_history.Goals as goal

pub returns-clause-alike : goal.returns-clause-alike
returns-clause-alike c same = c.are_same_entries.ensures.alike (rw (c.releases.ensures.list, c.releases-2.ensures.list) (alike_all c.args.a.now c.args.b.now same))
