use Rattle.std.proofs.Common.{ap, ◌*◌, ◌-◌, ◌^◌, ◌%◌, ◌∙◌}
use Rattle.lpis_digits.proofs.WordLemmas.{moved}
use Rattle.lpis_digits.proofs.eight.moved_to_end.Goals as goal

pub returns : goal.returns
returns c bytes long all is = ap (λ w. w * 256 % 18446744073709551616 * 2 ^ (8 * (7 - c.args.count)) % 18446744073709551616) is ∙ moved c.args.count bytes c.requires long all
