use Rattle.std.proofs.Common.{take, arith}
use Rattle.std.proofs.lemmas.List.{length-take-le}
use Rattle.lpis_digits.proofs.ByteLemmas.{first_bytes}
use Rattle.lpis_digits.proofs.LaneLemmas.{all_digits, digits_before}
use Rattle.lpis_digits.proofs.eight.digits_among_eight.Goals as goal

pub returns-then-others-eq0 : goal.returns-then-others-eq0
returns-then-others-eq0 c = all_digits (take 8 c.args.text.now) (length-take-le 8 c.args.text.now c.requires) (first_bytes 8 c.args.text.now c.type_inv.text) c.if-others-eq0.true

pub returns-else-others-eq0 : goal.returns-else-others-eq0
returns-else-others-eq0 c = digits_before (take 8 c.args.text.now) (length-take-le 8 c.args.text.now c.requires) (first_bytes 8 c.args.text.now c.type_inv.text) (omega (arith, c.if-others-eq0.false))
