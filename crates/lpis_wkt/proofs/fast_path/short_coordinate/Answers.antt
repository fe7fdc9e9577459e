use Rattle.std.proofs.Common.{Ok, ℕ, List, ◌++◌, sym, ap, ◌∙◌}
use Rattle.lpis_wkt.proofs.Common.{coordinate_decimals, greatest_coordinate, number}
use Rattle.lpis_wkt.specs.private.Runs.{SpellsAt}
use Rattle.lpis_wkt.proofs.PointLemmas.{coordinate-ok}
use Rattle.lpis_wkt.proofs.PartLemmas.{found_word, spells_at}
use Rattle.lpis_wkt.proofs.fast_path.short_coordinate.Goals as goal

pub returns-clause-word : goal.returns-clause-word
unfolding number
returns-clause-word c =
    let text : List ℕ = c.args.text.now in
    let (sign, p, is) = c.past_sign-negative.ensures.sign in
    let (body, q, plain) = c.in_ok-size.ensures.body in
    let negative = c.past_sign-negative.result.0 in
    let s : SpellsAt coordinate_decimals greatest_coordinate text c.args.at c.in_ok-size.end negative c.in_ok-size.size (sign ++ body) =
    spells_at coordinate_decimals greatest_coordinate text c.args.at c.past_sign-negative.result.1 c.in_ok-size.end sign body negative c.in_ok-size.size is p q plain in (
      sign ++ body,
      coordinate-ok (sign ++ body) c.coordinate.result (s.number ∙ ap Ok (sym c.coordinate.ensures)),
      found_word coordinate_decimals greatest_coordinate text c.args.at c.in_ok-size.end negative c.in_ok-size.size (sign ++ body) s (λ lt. sym c.is_word.ensures ∙ c.if-is_word.false),
    )
