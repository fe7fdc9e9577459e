use Rattle.std.proofs.Common.{ℕ, List, ◌++◌, ◌+◌, ◌*◌, ap, arith}
use Rattle.lpis_wkt.proofs.Common.{coordinate_decimals, greatest_coordinate}
use Rattle.lpis_wkt.proofs.PartLemmas.{parts_joined, plain_tail}
use Rattle.lpis_wkt.proofs.fast_path.short_size.Goals as goal

pub returns-clause-body : goal.returns-clause-body
returns-clause-body c =
    let text : List ℕ = c.args.text.now in
    let (ds, front, all, value, some) = c.in_ok-whole.ensures.digits in
    let (tail, rest, is) = c.in_ok-part.ensures.tail in
    let small = c.in_ok-whole.ensures.small in
    let few = c.in_ok-part.ensures.few in (
      ds ++ tail,
      parts_joined text c.args.at c.in_ok-whole.point c.in_ok-part.end ds tail front rest,
      plain_tail coordinate_decimals greatest_coordinate ds tail c.in_ok-part.part _ all some is (ap (λ x. x * 1000 + c.in_ok-part.part) value) (omega arith),
    )
