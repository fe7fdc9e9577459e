use Rattle.std.proofs.Common.{arith}
use Rattle.lpis_country.proofs.PlanLemmas.{plan_tiles}
use Rattle.lpis_country.proofs.plan.Plan.tiles.Goals as goal

pub returns-clause-same : goal.returns-clause-same
returns-clause-same c = grind (arith, plan_tiles (record { names = _; tiles = c.self.inside.tiles.items }) c.self.invariant, c.self.view_is, c.as_slice.ensures.value)
