use Rattle.std.proofs.Common.{◌∙◌, ap}
use Rattle.lpis_points.specs.Plane.{RationalPoint}
use Rattle.lpis_places.specs.private.Insides.{is_crossed}
use Rattle.lpis_places.proofs.spans.is_crossed_at.Goals as goal

pub returns : goal.returns
returns c = c.is_crossed.ensures ∙ ap (λ (q : RationalPoint). is_crossed q c.args.edge.from c.args.edge.to) (c.as_fraction.ensures ∙ c.mixed.ensures.at)
