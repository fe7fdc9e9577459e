use Rattle.std.proofs.Common.{lit<}
use Rattle.lpis_points.proofs.Shared.{small_product}
use Rattle.lpis_tables.specs.Percentages.{most_percent}
use Rattle.lpis_rings.specs.AreaBounds.{most_area}
use Rattle.lpis_release.proofs.weighted.product.Goals as goal

pub returns-clause-value : goal.returns-clause-value
returns-clause-value c =
    (small_product c.args.percent c.args.area most_percent most_area c.ranges.percent c.ranges.area c.requires.percent_in c.requires.area_in (lit< tt)).0

pub returns-clause-small : goal.returns-clause-small
returns-clause-small c =
    (small_product c.args.percent c.args.area most_percent most_area c.ranges.percent c.ranges.area c.requires.percent_in c.requires.area_in (lit< tt)).1
