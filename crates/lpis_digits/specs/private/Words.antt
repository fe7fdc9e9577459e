-- Eight bytes of a text as one number.
use Rattle.std.specs.Prelude.{ℕ, ◌+◌, ◌-◌, ◌*◌, ◌<◌, ◌%◌, List, [], ◌∷◌, ◌++◌, Bool, not, take}
use Rattle.std.specs.Prelude.{replicate}
use Rattle.std.specs.Char.{is_ascii_digit}

abbrev pub is_no_digit : ℕ → Bool
is_no_digit b = not (is_ascii_digit b)

-- each is a byte
abbrev pub AllBytes : List ℕ → Type 0
AllBytes [] = Unit {0}
AllBytes (b ∷ bs) = (b < 256) × AllBytes bs

-- the number of which the first byte is the lowest
abbrev pub word_of : List ℕ → ℕ
word_of [] = 0
word_of (b ∷ bs) = b + 256 * word_of bs

-- what bytes spell from a number on, each byte the digit of its lower half
abbrev pub spelled : ℕ → List ℕ → ℕ
spelled n [] = n
spelled n (b ∷ bs) = spelled (n * 10 + b % 16) bs

-- the first bytes of eight, behind as many zeros as make eight
abbrev pub behind_zeros : ℕ → List ℕ → List ℕ
behind_zeros count bytes = replicate (8 - count) 0 ++ take count bytes
