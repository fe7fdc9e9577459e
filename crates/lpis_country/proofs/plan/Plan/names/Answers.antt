use Rattle.std.proofs.Common.{arith}
use Rattle.std.proofs.lemmas.List.{length-map}
use Rattle.std.specs.String.{string_bytes}
use Rattle.lpis_country.proofs.PlanLemmas.{plan_has_some}
use Rattle.lpis_country.proofs.plan.Plan.names.Goals as goal

pub returns-clause-some : goal.returns-clause-some
returns-clause-some c =
    let some = plan_has_some (record { names = _; tiles = c.self.inside.tiles.items }) c.self.invariant in
    omega (arith, some, length-map c.self.inside.names.items string_bytes, c.as_slice.ensures.len)
