use Rattle.std.proofs.Common.{lit<}
use Rattle.lpis_points.proofs.Shared.{small_product}
use Rattle.lpis_rings.specs.private.Margins.{ring_coordinate_margin}
use Rattle.lpis_rings.proofs.area.product.Goals as goal

pub returns-clause-value : goal.returns-clause-value
returns-clause-value c =
    (small_product c.args.x c.args.y ring_coordinate_margin ring_coordinate_margin c.ranges.x c.ranges.y c.requires.x_in c.requires.y_in (lit< tt)).0

pub returns-clause-small : goal.returns-clause-small
returns-clause-small c =
    (small_product c.args.x c.args.y ring_coordinate_margin ring_coordinate_margin c.ranges.x c.ranges.y c.requires.x_in c.requires.y_in (lit< tt)).1
