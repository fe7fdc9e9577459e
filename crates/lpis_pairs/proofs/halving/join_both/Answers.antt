use Rattle.std.proofs.Common.{map}
use Rattle.lpis_pairs.proofs.JoinedLemmas.{across_kept, grows_on}
use Rattle.lpis_pairs.proofs.halving.join_both.Goals as goal

pub returns : goal.returns
returns g c = λ ps h.
    let ts = map g.T.HasTriangle.triangle c.args.triangles.now in
    let x = c.in_ok-join_across.ensures ps h in
    let y = c.in_ok-join_across-2.ensures x.0 x.1 in
    (y.0, y.1, grows_on ts ps x.0 y.0 x.2 y.2, (across_kept ts c.args.holders.now c.args.places.now 0 x.0 y.0 y.2.kept x.3, y.3))
