use Rattle.std.proofs.Common.{ap, ◌∙◌}
use Rattle.lpis_digits.proofs.WordLemmas.{number_of, word_spells}
use Rattle.lpis_digits.proofs.eight.spelled.Goals as goal

pub returns : goal.returns
returns c bytes long all is = ap number_of is ∙ word_spells bytes long all
