use Rattle.std.proofs.Common.{◌∙◌, subst, ℕ, List}
use Rattle.lpis_perform.specs.Standing.{Opens}
use Rattle.lpis_perform.proofs.opening.open_at_path.Goals as goal

pub returns-clause-opened : goal.returns-clause-opened
returns-clause-opened g c =
    subst (λ (path : List ℕ). Opens g.M.File.Read.remaining (g.M.Machine.standing c.args.machine.now path) c.open.result)
    (c.as_str.ensures.value ∙ c.in_ok-path.ensures) c.open.ensures
