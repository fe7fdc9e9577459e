use Rattle.std.proofs.Common.{List, sym, subst, ◌∙◌}
use Rattle.lpis_pairs.proofs.Common.{Triangle}
use Rattle.lpis_pairs.specs.NearPairs.{HasNearPairs}
use Rattle.lpis_pairs.proofs.source.PairSource.count.Goals as goal

pub returns : goal.returns
returns g c =
    let is = c.as_slice.ensures.value ∙ c.in_ok-copies.ensures in
    let ps = c.in_ok-pairs.pairs.items in
    let h = c.in_ok-pairs.ensures in
    (ps, subst (λ (ts : List Triangle). HasNearPairs ts ps) is (record { near = h.near; all = h.all }), sym c.in_ok-pairs.pairs.ok.0 ∙ sym c.len.ensures)
