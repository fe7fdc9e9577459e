use Rattle.std.proofs.Common.{List, ℕ, take, length, ◌≡◌, ◌<◌, ◌∙◌, arith}
use Rattle.std.proofs.lemmas.List.{length-take-le}
use Rattle.std.specs.List.{prefix_len}
use Rattle.std.specs.Char.{is_ascii_digit}
use Rattle.lpis_digits.specs.private.Words.{behind_zeros}
use Rattle.lpis_digits.proofs.ByteLemmas.{first_bytes, run_of_take, run_passes}
use Rattle.lpis_digits.proofs.RunLemmas.{behind-bytes, behind-long, spelled_some, value_below}
use Rattle.lpis_digits.proofs.reading.short_digits.Goals as goal

pub returns-clause-value : goal.returns-clause-value
returns-clause-value c =
    let text : List ℕ = c.args.text.now in
    let n : ℕ = c.digits_among_eight-count.result in
    let long : length (take 8 text) ≡ 8 = length-take-le 8 text c.requires in
    let bytes = first_bytes 8 text c.type_inv.text in
    let is : n ≡ prefix_len is_ascii_digit (take 8 text) = c.digits_among_eight-count.ensures in
    let other = c.if-count-eq-WORD.false in
    let few : n < 8 = omega (arith, run_of_take is_ascii_digit 8 text, is) in
    c.spelled-value.ensures (behind_zeros n (take 8 text)) (behind-long n (take 8 text) few long) (behind-bytes n (take 8 text) bytes)
    (c.some_moved_to_end.ensures (take 8 text) long bytes c.first_word.ensures)
    ∙ spelled_some text n is few

pub returns-clause-digits : goal.returns-clause-digits
returns-clause-digits c = run_passes is_ascii_digit c.digits_among_eight-count.result c.args.text.now (omega (arith, c.digits_among_eight-count.ensures, run_of_take is_ascii_digit 8 c.args.text.now))

pub returns-clause-few : goal.returns-clause-few
returns-clause-few c = value_below c.args.text.now _ _ (omega (arith, c.digits_among_eight-count.ensures, run_of_take is_ascii_digit 8 c.args.text.now)) (returns-clause-value c)
