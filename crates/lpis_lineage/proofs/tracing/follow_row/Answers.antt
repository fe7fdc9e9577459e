use Rattle.std.proofs.Common.{◌∙◌, sym}
use Rattle.lpis_lineage.proofs.Common.{get, same_id}
use Rattle.lpis_lineage.proofs.AskerLemmas.{all-none, all-skip, all-join}
use Rattle.lpis_lineage.proofs.tracing.follow_row.Goals as goal

pub returns-in-None : goal.returns-in-None
returns-in-None c = λ before asked all fresh. all-none (get same_id c.args.reached.now) before c.args.row.now asked all fresh c.in-None.is

pub returns-then-coming-eq0 : goal.returns-then-coming-eq0
returns-then-coming-eq0 c = λ before asked all fresh. all-skip (get same_id c.args.reached.now) before c.args.row.now asked all fresh (sym c.askers_of-coming.ensures ∙ c.if-coming-eq0.true)

pub returns-in_ok-add_askers-in-Some : goal.returns-in_ok-add_askers-in-Some
returns-in_ok-add_askers-in-Some c = λ before asked all fresh.
    all-join (get same_id c.args.reached.now) (get same_id c.add_askers.new.reached) before c.args.row.now asked c.in-Some.successor c.askers_of-coming.result
    all fresh c.in-Some.is c.askers_of-coming.ensures c.in_ok-add_askers-in-Some.ensures
