use Rattle.std.proofs.Common.{subst, sym}
use Rattle.lpis_country_seam.specs.Joined.{HasEnded}
use Rattle.lpis_run_country.proofs.joining.end.Goals as goal

pub end-parcels-requires : goal.end-parcels-requires
end-parcels-requires c = subst (HasEnded c.args.passing.progress.seam) (sym c.into_parcels.ensures) c.requires.ended
