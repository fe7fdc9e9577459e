use Rattle.std.proofs.Common.{◌∙◌, sym}
use Rattle.lpis_release.proofs.JoinLemmas.{groups-next, some-found}
use Rattle.lpis_release.proofs.joins.check_groups.Goals as goal

pub loop-k-preserved : goal.loop-k-preserved
loop-k-preserved c =
    let some = some-found c.args.groups.now c.get.result.now c.loop-k.k c.get.ensures (sym c.is_empty.ensures ∙ c.if-is_empty.false) in
    c.loop-k.invariant ∙ groups-next c.args.groups.now c.loop-k.k c.args.count c.loop-k-test.true some
