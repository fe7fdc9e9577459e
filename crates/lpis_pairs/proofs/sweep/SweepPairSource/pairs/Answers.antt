use Rattle.std.proofs.Common.{ℕ, List, subst, sym}
use Rattle.std.proofs.lemmas.List.{map-id}
use Rattle.lpis_pairs.proofs.Common.{Triangle}
use Rattle.lpis_pairs.specs.NearPairs.{HasNearPairs}
use Rattle.lpis_pairs.proofs.FoundLemmas.{near_list}
use Rattle.lpis_pairs.proofs.sweep.SweepPairSource.pairs.Goals as goal

pub returns : goal.returns
returns c =
    let ts = c.args.triangles.now in
    let ps = c.sweep_boxes.new.taker.pairs.items in
    let x = c.in_ok-sweep_boxes.ensures c.new.ensures.items in
    let has = subst (λ (us : List Triangle). HasNearPairs us x.0) (map-id ts) x.2 in
    near_list ts ps c.in_order.result.items (subst (λ (qs : List (ℕ × ℕ)). HasNearPairs ts qs) (sym x.1) has)
    c.in_order.ensures.rising c.in_order.ensures.same
