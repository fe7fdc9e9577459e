use Rattle.std.proofs.Common.{length}
use Rattle.lpis_cutter.specs.private.Cutting.{HasFewAt, IsUncutAt}
use Rattle.lpis_cutter.proofs.PieceLemmas.{no_few_fans, points_bound_grows}
use Rattle.lpis_cutter.proofs.cutting.cut_pieces.Goals as goal

pub refusal_of_piece-requires-clause-uncut : goal.refusal_of_piece-requires-clause-uncut
refusal_of_piece-requires-clause-uncut c =
    let u : IsUncutAt c.args.release.now c.loop-index.index c.loop-index.parts.triangles c.loop-index.parts.flats = rw c.in-None.is at c.in_ok-cut.ensures.none in
    no_few_fans c.args.release.now.pieces c.loop-index.index u.0 c.loop-index.parts.triangles c.loop-index.parts.flats
    u.1 c.loop-index.invariant.triangles c.loop-index.invariant.flats u.2

pub loop-index-preserved : goal.loop-index-preserved
loop-index-preserved c =
    let few : HasFewAt c.args.release.now c.loop-index.index c.in-Some.cut = rw c.in-Some.is at c.in_ok-cut.ensures.few in
    record {
      triangles = points_bound_grows c.args.release.now.pieces c.loop-index.index few.0 c.loop-index.parts.triangles
          (length c.in-Some.cut.triangles.items) c.in_ok-parts-in-Some.parts.triangles few.1
          c.loop-index.invariant.triangles (λ fan. (few.2 fan).0) c.in_ok-parts-in-Some.ensures.triangles;
      flats = points_bound_grows c.args.release.now.pieces c.loop-index.index few.0 c.loop-index.parts.flats
          (length c.in-Some.cut.flats.items) c.in_ok-parts-in-Some.parts.flats few.1
          c.loop-index.invariant.flats (λ fan. (few.2 fan).1) c.in_ok-parts-in-Some.ensures.flats;
    }
