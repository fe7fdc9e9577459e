use Rattle.std.proofs.Common.{ℕ, ◌-◌, List, length, take, drop}
use Rattle.lpis_wkt.proofs.PartLemmas.{part_of}
use Rattle.lpis_wkt.proofs.fast_path.digits_at.Goals as goal

pub returns-clause-digits : goal.returns-clause-digits
returns-clause-digits c =
    let text : List ℕ = c.args.text.now in
    let e = c.leading_digits-digits.ensures in
    let n : ℕ = c.leading_digits-digits.result.count in
    (take n (take (length text - c.args.at) (drop c.args.at text)), part_of text c.args.at n c.requires e.within, e.digits, e.value)
