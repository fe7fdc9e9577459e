-- Numbers in decimals.
use Rattle.std.specs.Prelude.{◌+◌, ◌/◌, ◌%◌, ◌++◌, ◌∷◌, ℕ, zero, suc, ℤ, pos, negsuc, List, []}
use Rattle.std.specs.Prelude.{codes}

-- the last `width` digits of n
abbrev pub last_digits : ℕ → ℕ → List ℕ
last_digits zero n = []
last_digits (suc width) n = last_digits width (n / 10) ++ (48 + n % 10) ∷ []

-- a minus below zero
abbrev pub sign_text : ℤ → List ℕ
sign_text (pos n) = []
sign_text (negsuc n) = codes "-"
