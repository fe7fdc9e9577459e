use Rattle.std.proofs.Common.{◌∙◌, sym, ap, List, ℕ}
use Rattle.lpis_lineage.proofs.WalkingLemmas.{rowless, dropped-rowless}
use Rattle.lpis_lineage.proofs.acceptance.check_dropped.Goals as goal

pub loop-id-init : goal.loop-id-init
loop-id-init c = λ rows seen. dropped-rowless c.args.live.now rows c.args.last.now
    ∙ ap (λ (l : List (List ℕ)). rowless rows l) (sym c.lacking-id-items.ensures.rest
    ∙ sym c.into_iter-id-iterator.ensures.into_iter_gives)
