use Rattle.std.proofs.Common.{sym, ◌∙◌}
use Rattle.std.proofs.lemmas.List.{length-map}
use Rattle.std.specs.String.{string_bytes}
use Rattle.lpis_country.proofs.PlanLemmas.{plan_tiles}
use Rattle.lpis_country.proofs.plan.Plan.into_parts.Goals as goal

pub returns-clause-same : goal.returns-clause-same
returns-clause-same c =
    let same = plan_tiles (record { names = _; tiles = c.self.inside.tiles.items }) c.self.invariant in
    sym (length-map c.self.inside.names.items string_bytes) ∙ same
