use Rattle.std.proofs.Common.{List, map, subst}
use Rattle.lpis_pairs.proofs.Common.{Extent}
use Rattle.lpis_pairs.specs.private.Holding.{FindsHeld}
use Rattle.lpis_pairs.proofs.JoinedLemmas.{grows_on}
use Rattle.lpis_pairs.proofs.HalvingLemmas.{at_kept, finds_all}
use Rattle.lpis_pairs.proofs.halving.sweep_levels.Goals as goal

pub returns : goal.returns
returns g c = λ ps h.
    let ts = map g.T.HasTriangle.triangle c.args.triangles.now in
    let x = c.in_ok-join_starts.ensures ps h in
    let y = c.in_ok-join_levels.ensures x.0 x.1 in (
      y.0,
      y.1,
      grows_on ts ps x.0 y.0 x.2 y.2,
      finds_all ts y.0 (at_kept ts x.0 y.0 y.2 x.3) (subst (λ (xs : List Extent). FindsHeld ts xs y.0) c.requires.extents y.3),
    )
