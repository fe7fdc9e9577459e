use Rattle.std.proofs.Common.{◌≡◌, ℕ, ◌+◌, ◌-◌, List, [], ◌∷◌, length, subst, arith}
use Rattle.lpis_wkt.proofs.Common.{coordinate_decimals, IsPart}
use Rattle.lpis_wkt.specs.private.Runs.{nothing}
use Rattle.lpis_wkt.proofs.DigitLemmas.{scaled_below}
use Rattle.lpis_wkt.proofs.PartLemmas.{no_part, part_grows, parts_joined, tail_of}
use Rattle.lpis_wkt.proofs.fast_path.short_decimals_at.Goals as goal

pub returns-else-count-gt-DECIMALS-clause-tail : goal.returns-else-count-gt-DECIMALS-clause-tail
returns-else-count-gt-DECIMALS-clause-tail c =
    let text : List ℕ = c.args.text.now in
    let at : ℕ = c.args.at in
    let (ds, part, all, value, some) = c.in_ok-value.ensures.digits in
    let dot : IsPart text at (at + 1) (46 ∷ []) = subst (λ (b : ℕ). IsPart text at (at + 1) (b ∷ [])) c.if-text-at-eq46.true (part_grows text at at [] (no_part text at (omega arith)) (omega arith)) in
    let count : c.in_ok-value.end - (at + 1) ≡ length ds = let e = part.past in omega arith in
    (46 ∷ ds, parts_joined text at (at + 1) c.in_ok-value.end (46 ∷ []) ds dot part, tail_of coordinate_decimals ds _ _ _ all count c.if-count-gt-DECIMALS.false value c.power_of_ten.ensures)

pub returns-else-count-gt-DECIMALS-clause-few : goal.returns-else-count-gt-DECIMALS-clause-few
returns-else-count-gt-DECIMALS-clause-few c =
    rw c.power_of_ten.ensures (scaled_below c.in_ok-value.value (c.in_ok-value.end - (c.args.at + 1)) coordinate_decimals c.in_ok-value.ensures.few c.if-count-gt-DECIMALS.false)

pub returns-else-text-at-eq46-clause-tail : goal.returns-else-text-at-eq46-clause-tail
returns-else-text-at-eq46-clause-tail c = ([], no_part c.args.text.now c.args.at (omega arith), nothing)
