use Rattle.std.proofs.Common.{◌≡◌, ℕ, ◌+◌, ◌*◌, ◌^◌, ◌<◌, List, ◌++◌, length, refl, arith}
use Rattle.lpis_wkt.proofs.Common.{digits_value}
use Rattle.lpis_wkt.proofs.DigitLemmas.{ten_positive}
use Rattle.lpis_wkt.proofs.PartLemmas.{parts_joined, plain_tail}
use Rattle.lpis_wkt.proofs.fast_path.plain_number.Goals as goal

pub nonzero_div-greatest : goal.nonzero_div-greatest
nonzero_div-greatest c = omega (arith, c.power_of_ten-unit.ensures, ten_positive c.args.decimals)

size_of : (whole unit part value power : ℕ) → whole ≡ value → unit ≡ power → whole * unit + part ≡ value * power + part
size_of whole unit part value power v u = rw (v, u) refl

pub returns-else-size-greatest : goal.returns-else-size-greatest
returns-else-size-greatest c =
    let text : List ℕ = c.args.text.now in
    let (ds, front, all, value) = c.digits_at-whole.ensures.digits in
    let (tail, rest, is) = c.in_ok-part.ensures.tail in
    let some : 0 < length ds = let e = front.past in let d = c.if-point-at.false in omega arith in (
      ds ++ tail,
      parts_joined text c.args.at c.digits_at-whole.result.1 c.in_ok-part.end ds tail front rest,
      plain_tail c.args.decimals c.args.greatest ds tail c.in_ok-part.part _ all some is
          (size_of c.digits_at-whole.result.0 c.power_of_ten-unit.result c.in_ok-part.part (digits_value 10 ds) (10 ^ c.args.decimals) value c.power_of_ten-unit.ensures)
          c.if-size-greatest.false,
    )
