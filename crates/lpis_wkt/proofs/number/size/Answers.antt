use Rattle.std.proofs.Common.{◌≡◌, ◌≤◌, ◌++◌}
use Rattle.lpis_wkt.proofs.Common.{digits_value, padded}
use Rattle.lpis_wkt.proofs.DigitLemmas.{size_after, whole_above}
use Rattle.lpis_wkt.proofs.number.size.Goals as goal

pub returns-in_err-front : goal.returns-in_err-front
returns-in_err-front c =
    let ds = c.args.whole.now in
    let more = padded c.args.decimals c.args.fraction.now in
    whole_above c.args.greatest ds more c.from_residual.result (λ n. (n ≡ digits_value 10 (ds ++ more)) × (n ≤ c.args.greatest)) c.in_err-front.ensures c.from_residual.ensures

pub returns : goal.returns
returns c = rw (size_after c.args.whole.now (padded c.args.decimals c.args.fraction.now), ← c.in_ok-front.ensures.0) c.with_decimals.ensures
