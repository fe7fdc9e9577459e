use Rattle.std.proofs.Common.{List, ℕ, take, length, ◌≡◌, ◌<◌, ◌∙◌, arith}
use Rattle.std.proofs.lemmas.List.{length-take-le}
use Rattle.std.specs.List.{prefix_len}
use Rattle.std.specs.Char.{is_ascii_digit}
use Rattle.lpis_digits.specs.private.Words.{behind_zeros}
use Rattle.lpis_digits.proofs.ByteLemmas.{first_bytes, run_of_take}
use Rattle.lpis_digits.proofs.RunLemmas.{behind-bytes, behind-long, spelled_all, spelled_some}
use Rattle.lpis_digits.proofs.reading.digits_of_word.Goals as goal

pub returns-then-count-eq-WORD-clause-value : goal.returns-then-count-eq-WORD-clause-value
returns-then-count-eq-WORD-clause-value c =
    let text : List ℕ = c.args.text.now in
    c.spelled-value.ensures (take 8 text) (length-take-le 8 text c.requires) (first_bytes 8 text c.type_inv.text) c.first_word-word.ensures
    ∙ spelled_all text c.digits_among_eight-count.result c.digits_among_eight-count.ensures c.if-count-eq-WORD.true

pub returns-else-count-eq-WORD-clause-value : goal.returns-else-count-eq-WORD-clause-value
returns-else-count-eq-WORD-clause-value c =
    let text : List ℕ = c.args.text.now in
    let n : ℕ = c.digits_among_eight-count.result in
    let long : length (take 8 text) ≡ 8 = length-take-le 8 text c.requires in
    let bytes = first_bytes 8 text c.type_inv.text in
    let is : n ≡ prefix_len is_ascii_digit (take 8 text) = c.digits_among_eight-count.ensures in
    let other = c.if-count-eq-WORD.false in
    let few : n < 8 = omega (arith, run_of_take is_ascii_digit 8 text, is) in
    c.spelled-value-else-count-eq-WORD.ensures (behind_zeros n (take 8 text)) (behind-long n (take 8 text) few long) (behind-bytes n (take 8 text) bytes)
    (c.moved_to_end.ensures (take 8 text) long bytes c.first_word-word.ensures)
    ∙ spelled_some text n is few
