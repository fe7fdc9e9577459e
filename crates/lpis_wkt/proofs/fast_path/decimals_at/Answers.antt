use Rattle.std.proofs.Common.{◌≡◌, ℕ, ◌+◌, ◌-◌, List, [], ◌∷◌, length, subst, arith}
use Rattle.lpis_wkt.proofs.Common.{IsPart}
use Rattle.lpis_wkt.specs.private.Runs.{nothing}
use Rattle.lpis_wkt.proofs.DigitLemmas.{scaled_below, ten_positive}
use Rattle.lpis_wkt.proofs.PartLemmas.{no_part, part_grows, parts_joined, tail_of}
use Rattle.lpis_wkt.proofs.fast_path.decimals_at.Goals as goal

pub returns-else-count-decimals-clause-tail : goal.returns-else-count-decimals-clause-tail
returns-else-count-decimals-clause-tail c =
    let text : List ℕ = c.args.text.now in
    let at : ℕ = c.args.at in
    let (ds, part, all, value) = c.digits_at-value.ensures.digits in
    let dot : IsPart text at (at + 1) (46 ∷ []) = subst (λ (b : ℕ). IsPart text at (at + 1) (b ∷ [])) c.if-text-at-eq46.true
    (part_grows text at at [] (no_part text at c.requires.within) c.if-at-text.true) in
    let count : c.digits_at-value.result.1 - (at + 1) ≡ length ds = let e = part.past in omega arith in
    (46 ∷ ds, parts_joined text at (at + 1) c.digits_at-value.result.1 (46 ∷ []) ds dot part, tail_of c.args.decimals ds _ _ _ all count c.if-count-decimals.false value c.power_of_ten.ensures)

pub returns-else-count-decimals-clause-few : goal.returns-else-count-decimals-clause-few
returns-else-count-decimals-clause-few c =
    rw c.power_of_ten.ensures (scaled_below c.digits_at-value.result.0 (c.digits_at-value.result.1 - (c.args.at + 1)) c.args.decimals c.digits_at-value.ensures.few c.if-count-decimals.false)

pub returns-else-at-text-clause-tail : goal.returns-else-at-text-clause-tail
returns-else-at-text-clause-tail c = ([], no_part c.args.text.now c.args.at c.requires.within, nothing)

pub returns-else-at-text-clause-few : goal.returns-else-at-text-clause-few
returns-else-at-text-clause-few c = ten_positive c.args.decimals
