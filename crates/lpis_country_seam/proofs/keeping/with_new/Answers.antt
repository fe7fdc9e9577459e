use Rattle.std.proofs.Common.{get_or}
use Rattle.std.proofs.lemmas.List.{get_or_default}
use Rattle.lpis_country_seam.proofs.KeepLemmas.{place-more}
use Rattle.lpis_country_seam.proofs.keeping.with_new.Goals as goal

pub loop-k-preserved : goal.loop-k-preserved
loop-k-preserved c =
    let place = get_or c.args.places.now c.loop-k.k 0 in
    place-more c.args.tiles.now c.args.release.now c.args.kept c.loop-k.rows _ c.args.places.now c.loop-k.k place c.loop-k-test.true
    (get_or_default c.args.places.now c.loop-k.k 0 place c.loop-k-test.true) c.in_ok-rows.ensures c.loop-k.invariant
