-- The digits that a text begins with.
use Rattle.std.specs.Prelude.{ℕ, min, List}
use Rattle.std.specs.List.{prefix_len}
use Rattle.std.specs.Char.{is_ascii_digit}

-- the most digits that are read: a number of more would not fit
abbrev pub most_digits : ℕ
most_digits = 16

-- how many digits a text begins with, the most at most
abbrev pub digit_count : List ℕ → ℕ
digit_count text = min most_digits (prefix_len is_ascii_digit text)
