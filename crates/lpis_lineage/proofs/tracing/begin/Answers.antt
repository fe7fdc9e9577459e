use Rattle.std.proofs.Common.{arith, refl}
use Rattle.lpis_lineage.proofs.Common.{get, same_id}
use Rattle.lpis_lineage.proofs.AskerLemmas.{none-asked, asked-none, asked-some, all-asked}
use Rattle.lpis_lineage.proofs.tracing.begin.Goals.{in-Some+in_ok-add_askers, in_default}
use Rattle.lpis_lineage.proofs.tracing.begin.Goals as goal

pub loop-place-init : goal.loop-place-init
loop-place-init c = none-asked (get same_id c.new-reached.result) c.args.asked.now (λ q. rw c.new-reached.ensures.empty refl)

pub loop-place-preserved : goal.loop-place-preserved
loop-place-preserved c = elim c.match-asked-place.branch [
  | in-Some+in_ok-add_askers w ↦ rw w.reached-is (asked-some (get same_id c.loop-place.reached) (get same_id w.add_askers.new.reached) c.args.asked.now c.loop-place.place w.in-Some.id _
      (omega (arith, c.requires, c.loop-place-test.true)) c.loop-place-test.true c.index-asked-place.result c.index-asked-place.is w.in-Some.is refl
      w.in_ok-add_askers.ensures c.loop-place.invariant)
  | in_default w ↦ rw w.reached-is (asked-none (get same_id c.loop-place.reached) c.args.asked.now c.loop-place.place c.loop-place-test.true
      c.index-asked-place.result c.index-asked-place.is w.in_default.is c.loop-place.invariant)
]

pub returns : goal.returns
returns c = all-asked (get same_id c.loop-place.reached) c.args.asked.now c.loop-place.place (omega (arith, c.loop-place-test.false)) c.loop-place.invariant
