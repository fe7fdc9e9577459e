use Rattle.lpis_run_country.proofs.BegunLemmas.{planned}
use Rattle.lpis_run_country.proofs.beginning.begin.Goals as goal

pub new-requires : goal.new-requires
new-requires c =
    let (names, tiles) = c.into_parts-names.result in
    planned c.in_ok-plan.plan names.items tiles.items c.into_parts-names.ensures.plan c.into_parts-names.ensures.names c.into_parts-names.ensures.tiles c.into_parts-names.ensures.same
