use Rattle.std.proofs.Common.{ℕ, ◌-◌, ◌≡◌, ◌≤◌, ◌^◌, List, length, take, drop, arith, length-drop}
use Rattle.std.proofs.lemmas.List.{length-take-le}
use Rattle.std.proofs.Math.Nat.{pow-le-pow_right}
use Rattle.lpis_wkt.proofs.PartLemmas.{part_of, rest_is}
use Rattle.lpis_wkt.proofs.fast_path.short_digits_at.Goals as goal

pub returns-clause-digits : goal.returns-clause-digits
returns-clause-digits c =
    let text : List ℕ = c.args.text.now in
    let e = c.in_ok-digits.ensures in
    let n : ℕ = c.in_ok-digits.digits.count in
    let rest : List ℕ = take (length text - c.args.at) (drop c.args.at text) in
    let long : length rest ≡ length text - c.args.at = rw (rest_is c.args.at text) (length-drop c.args.at text) in
    let within : n ≤ length rest = let s = e.some in omega arith in
    let taken : length (take n rest) ≡ n = length-take-le n rest within in
    (take n rest, part_of text c.args.at n (omega arith) within, e.digits, e.value, (let s = e.some in omega arith))

pub returns-clause-small : goal.returns-clause-small
returns-clause-small c =
    let e = c.in_ok-digits.ensures in
    let n : ℕ = c.in_ok-digits.digits.count in
    let some = e.some in
    let few = e.few in
    let le : 10 ^ n ≤ 10 ^ 7 = pow-le-pow_right {n = 10} (omega arith) {i = n} {j = 7} (omega arith) in
    omega arith
