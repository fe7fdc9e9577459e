use Rattle.std.proofs.Common.{lit<}
use Rattle.lpis_points.specs.private.Margins.{coordinate_margin, denominator_margin}
use Rattle.lpis_points.proofs.SmallProductLemmas.{smaller_product}
use Rattle.lpis_points.proofs.side.height.Goals as goal

pub returns-clause-value : goal.returns-clause-value
returns-clause-value c = (smaller_product c.args.y c.args.d coordinate_margin denominator_margin c.ranges.y c.ranges.d c.requires.y_in c.requires.d_in (lit< tt)).0

pub returns-clause-small : goal.returns-clause-small
returns-clause-small c = (smaller_product c.args.y c.args.d coordinate_margin denominator_margin c.ranges.y c.ranges.d c.requires.y_in c.requires.d_in (lit< tt)).1
