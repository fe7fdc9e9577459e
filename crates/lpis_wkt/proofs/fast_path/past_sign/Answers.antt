use Rattle.std.proofs.Common.{ℕ, ◌+◌, List, [], ◌∷◌, subst, arith}
use Rattle.lpis_wkt.proofs.Common.{IsPart}
use Rattle.lpis_wkt.specs.private.Runs.{none, plus, minus}
use Rattle.lpis_wkt.proofs.PartLemmas.{no_part, part_grows}
use Rattle.lpis_wkt.proofs.fast_path.past_sign.Goals as goal

pub returns-in-45-clause-sign : goal.returns-in-45-clause-sign
returns-in-45-clause-sign c =
    let text : List ℕ = c.args.text.now in
    let at : ℕ = c.args.at in
    (45 ∷ [], subst (λ (b : ℕ). IsPart text at (at + 1) (b ∷ [])) c.in-45.is (part_grows text at at [] (no_part text at (omega arith)) c.requires), minus)

pub returns-in-43-clause-sign : goal.returns-in-43-clause-sign
returns-in-43-clause-sign c =
    let text : List ℕ = c.args.text.now in
    let at : ℕ = c.args.at in
    (43 ∷ [], subst (λ (b : ℕ). IsPart text at (at + 1) (b ∷ [])) c.in-43.is (part_grows text at at [] (no_part text at (omega arith)) c.requires), plus)

pub returns-in_default-clause-sign : goal.returns-in_default-clause-sign
returns-in_default-clause-sign c = ([], no_part c.args.text.now c.args.at (omega arith), none)
