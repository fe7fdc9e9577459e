use Rattle.std.proofs.Common.{◌++◌}
use Rattle.lpis_wkt.proofs.PartLemmas.{spells_at}
use Rattle.lpis_wkt.proofs.fast_path.common_number.Goals as goal

pub returns : goal.returns
returns c =
    let (sign, p, is) = c.past_sign-negative.ensures.sign in
    let (body, q, plain) = c.in_ok-size.ensures in (
      sign ++ body,
      spells_at c.args.decimals c.args.greatest c.args.text.now c.args.at c.past_sign-negative.result.1 c.in_ok-size.end sign body c.past_sign-negative.result.0 c.in_ok-size.size is p q plain,
    )
