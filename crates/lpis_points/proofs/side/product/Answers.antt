use Rattle.std.proofs.Common.{lit<}
use Rattle.lpis_points.specs.private.Margins.{offset_margin, step_margin}
use Rattle.lpis_points.proofs.SmallProductLemmas.{widened_product}
use Rattle.lpis_points.proofs.side.product.Goals as goal

pub returns-clause-value : goal.returns-clause-value
returns-clause-value c = (widened_product c.args.x c.args.y step_margin offset_margin c.ranges.x c.ranges.y c.requires.x_in c.requires.y_in (lit< tt)).0

pub returns-clause-small : goal.returns-clause-small
returns-clause-small c = (widened_product c.args.x c.args.y step_margin offset_margin c.ranges.x c.ranges.y c.requires.x_in c.requires.y_in (lit< tt)).1
