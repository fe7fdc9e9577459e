-- The line of a certificate that is not good, part by part.
use Rattle.std.proofs.Common.{◌≡◌, ◌++◌, ℕ, List, Option, codes, subst}
use Rattle.lpis_run.proofs.Common.{Appends, appends-more}
use Rattle.lpis_checker.specs.declared.condition.Condition.{Condition}
use Rattle.lpis_checker.specs.declared.fault.CheckFault.TheVariants.{At}
use Rattle.lpis_checker.specs.declared.fault.Location.{Location}
use Rattle.lpis_checker.specs.Codes.{check_code_text}
use Rattle.lpis_run.specs.Refusals.{check_refusal_text, location_text}

-- a code, a location and a line end, written one after the other, are the line of a refused certificate
pub check-refusal : (start coded placed end : Option (List ℕ)) (said : List ℕ) (code : Condition) (location : Location) → said ≡ check_code_text code
    → Appends start coded (codes "refused " ++ said ++ codes " ") → Appends coded placed (location_text location) → Appends placed end (codes "\n")
    → Appends start end (check_refusal_text (At code location))
check-refusal start coded placed end said code location is first second third =
    let line = codes "refused " ++ check_code_text code ++ codes " " in
    appends-more start placed end (line ++ location_text location) (codes "\n")
    (appends-more start coded placed line (location_text location) (subst (λ (s : List ℕ). Appends start coded (codes "refused " ++ s ++ codes " ")) is first) second) third
