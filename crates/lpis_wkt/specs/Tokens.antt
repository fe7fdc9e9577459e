-- The tokens of a text.
use Rattle.std.specs.Prelude.{ℕ, ◌+◌, Bool, ◌||◌, ◌==◌, List, [], ◌∷◌, ◌++◌, length, if◌then◌else◌}
use Rattle.std.specs.Prelude.{map}

-- A token, without where it stands: `(`, `)`, `,`, a word, or the end of the text.
pub data Token : Type 0 where
  Open : Token
  Close : Token
  Comma : Token
  Word : List ℕ → Token
  End : Token

-- space, tab, CR or LF
abbrev pub is_space : ℕ → Bool
is_space b = (b == 32) || (b == 9) || (b == 13) || (b == 10)

-- A word's byte at an offset, before these tokens: it joins a word that begins directly after it.
abbrev pub join : ℕ → ℕ → List (ℕ × Token) → List (ℕ × Token)
join at b ((next, Word bs) ∷ ts) = if next == at + 1 then (at, Word (b ∷ bs)) ∷ ts else
    (at, Word (b ∷ [])) ∷ (next, Word bs) ∷ ts
join at b ts = (at, Word (b ∷ [])) ∷ ts

-- The tokens of a text that begins at an offset, each with the offset of its first byte.
abbrev pub tokens_from : ℕ → List ℕ → List (ℕ × Token)
tokens_from at [] = []
tokens_from at (b ∷ bs) =
    if is_space b then tokens_from (at + 1) bs
    else (if b == 40 then (at, Open) ∷ tokens_from (at + 1) bs
    else (if b == 41 then (at, Close) ∷ tokens_from (at + 1) bs
    else (if b == 44 then (at, Comma) ∷ tokens_from (at + 1) bs
    else join at b (tokens_from (at + 1) bs))))

-- All tokens of a text, with its end, which stands at its length, as the last.
abbrev pub tokens : List ℕ → List (ℕ × Token)
tokens text = tokens_from 0 text ++ (length text, End) ∷ []

-- the tokens without their offsets
abbrev pub kinds : List (ℕ × Token) → List Token
kinds ts = map (λ t. t.1) ts
