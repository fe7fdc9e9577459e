use Rattle.lpis_wkt.proofs.ExactLemmas.{number_is_exact, minus_not_positive, no_minus_not_negative}
use Rattle.lpis_wkt.proofs.laws.exact_numbers.Goals as goal

pub returns : goal.returns
returns c = record { amount = number_is_exact; minus = minus_not_positive; plus = no_minus_not_negative }
