use Rattle.std.proofs.Common.{ap, ◌*◌, ◌-◌, ◌^◌, ◌%◌, ◌∙◌}
use Rattle.lpis_digits.proofs.WordLemmas.{shifted}
use Rattle.lpis_digits.proofs.eight.some_moved_to_end.Goals as goal

pub returns : goal.returns
returns c bytes long all is = ap (λ w. w * 2 ^ (8 * (8 - c.args.count)) % 18446744073709551616) is ∙ shifted c.args.count bytes c.requires.0 c.requires.1 long all
