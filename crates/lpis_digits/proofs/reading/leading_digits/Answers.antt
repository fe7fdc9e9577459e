use Rattle.std.proofs.Common.{◌≡◌, ℕ, ◌+◌, ◌-◌, ◌*◌, ◌<◌, ◌≤◌, ◌^◌, List, length, take, drop, min, ap, ◌∙◌, arith, length-drop}
use Rattle.std.proofs.lemmas.List.{take_all}
use Rattle.std.proofs.lemmas.List.Sums.{prefix_len-le-length}
use Rattle.std.specs.List.{prefix_len}
use Rattle.std.specs.Char.{is_ascii_digit}
use Rattle.std.specs.Str.Parse.{digits_value}
use Rattle.lpis_digits.specs.Digits.{digit_count}
use Rattle.lpis_digits.proofs.RunLemmas.{read, run_goes_on, value_below, value_joined}
use Rattle.lpis_digits.proofs.reading.leading_digits.Goals as goal

-- the digits end among the first eight bytes
short : (text : List ℕ) (n : ℕ) → n ≡ min 8 (prefix_len is_ascii_digit text) → n < 8 → n ≡ digit_count text
short text n is lt = omega arith

pub returns-then-first-lt-WORD-clause-within : goal.returns-then-first-lt-WORD-clause-within
returns-then-first-lt-WORD-clause-within c =
    (read c.args.text.now c.first_digits-first.result.count (short c.args.text.now _ c.first_digits-first.ensures.count c.if-first-lt-WORD.true)).within

pub returns-then-first-lt-WORD-clause-digits : goal.returns-then-first-lt-WORD-clause-digits
returns-then-first-lt-WORD-clause-digits c =
    (read c.args.text.now c.first_digits-first.result.count (short c.args.text.now _ c.first_digits-first.ensures.count c.if-first-lt-WORD.true)).digits

pub returns-then-first-lt-WORD-clause-stops : goal.returns-then-first-lt-WORD-clause-stops
returns-then-first-lt-WORD-clause-stops c =
    (read c.args.text.now c.first_digits-first.result.count (short c.args.text.now _ c.first_digits-first.ensures.count c.if-first-lt-WORD.true)).stops

rest_is : (text : List ℕ) → take (length text - 8) (drop 8 text) ≡ drop 8 text
rest_is text = take_all (length text - 8) (drop 8 text) (omega (arith, length-drop 8 text))

-- the first eight bytes are digits, and m of the eight behind them
long : (text : List ℕ) (n m : ℕ) → n ≡ min 8 (prefix_len is_ascii_digit text) → 8 ≤ n
    → m ≡ min 8 (prefix_len is_ascii_digit (take (length text - 8) (drop 8 text))) → 8 + m ≡ digit_count text
long text n m is full more =
    let on = run_goes_on is_ascii_digit 8 text (omega arith) in
    let m_is : m ≡ min 8 (prefix_len is_ascii_digit (drop 8 text)) = more ∙ ap (λ l. min 8 (prefix_len is_ascii_digit l)) (rest_is text) in
    omega arith

-- the value of all of them
whole : (text : List ℕ) (n m a b power : ℕ) → n ≡ min 8 (prefix_len is_ascii_digit text) → 8 ≤ n
    → m ≡ min 8 (prefix_len is_ascii_digit (take (length text - 8) (drop 8 text))) → a ≡ digits_value 10 (take n text)
    → b ≡ digits_value 10 (take m (take (length text - 8) (drop 8 text))) → power ≡ 10 ^ m → a * power + b ≡ digits_value 10 (take (8 + m) text)
whole text n m a b power is full more first second p =
    let eight : n ≡ 8 = omega arith in
    let m_is : m ≡ min 8 (prefix_len is_ascii_digit (drop 8 text)) = more ∙ ap (λ l. min 8 (prefix_len is_ascii_digit l)) (rest_is text) in
    let within : m ≤ length (drop 8 text) = omega (arith, prefix_len-le-length is_ascii_digit (drop 8 text)) in
    ap (λ x. a * x + b) p
    ∙ value_joined text m a b within (first ∙ ap (λ k. digits_value 10 (take k text)) eight) (second ∙ ap (λ l. digits_value 10 (take m l)) (rest_is text))

pub returns-clause-count : goal.returns-clause-count
returns-clause-count c = long c.args.text.now _ _ c.first_digits-first.ensures.count c.if-first-lt-WORD.false c.first_digits-second.ensures.count

pub returns-clause-value : goal.returns-clause-value
returns-clause-value c =
    let f = c.first_digits-first.ensures in
    let s = c.first_digits-second.ensures in
    let m = c.first_digits-second.result.count in
    whole c.args.text.now _ _ _ _ _ f.count c.if-first-lt-WORD.false s.count f.value s.value c.power_of_ten.ensures

pub returns-clause-within : goal.returns-clause-within
returns-clause-within c =
    (read c.args.text.now (8 + c.first_digits-second.result.count) (long c.args.text.now _ _ c.first_digits-first.ensures.count c.if-first-lt-WORD.false c.first_digits-second.ensures.count)).within

pub returns-clause-digits : goal.returns-clause-digits
returns-clause-digits c =
    (read c.args.text.now (8 + c.first_digits-second.result.count) (long c.args.text.now _ _ c.first_digits-first.ensures.count c.if-first-lt-WORD.false c.first_digits-second.ensures.count)).digits

pub returns-clause-stops : goal.returns-clause-stops
returns-clause-stops c =
    (read c.args.text.now (8 + c.first_digits-second.result.count) (long c.args.text.now _ _ c.first_digits-first.ensures.count c.if-first-lt-WORD.false c.first_digits-second.ensures.count)).stops

pub returns-clause-few : goal.returns-clause-few
returns-clause-few c =
    let f = c.first_digits-first.ensures in
    let s = c.first_digits-second.ensures in
    let m = c.first_digits-second.result.count in
    let all : 8 + m ≡ digit_count c.args.text.now = long c.args.text.now _ _ f.count c.if-first-lt-WORD.false s.count in
    value_below c.args.text.now (8 + m) _ (omega arith) (whole c.args.text.now _ _ _ _ _ f.count c.if-first-lt-WORD.false s.count f.value s.value c.power_of_ten.ensures)
