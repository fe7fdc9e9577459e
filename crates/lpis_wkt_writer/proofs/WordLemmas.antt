-- The words of a text, as tokens.
use Rattle.std.proofs.Common.{◌≡◌, ℕ, suc, ◌+◌, ◌<◌, List, [], ◌∷◌, ◌++◌, length, ap, arith}
use Rattle.lpis_wkt.proofs.Shared.{AllWord, Stops, whole_word}
use Rattle.lpis_wkt.specs.Tokens.{Token, Word, kinds, tokens_from}

-- where no word goes on behind it, the text has these tokens
abbrev pub Spells : List ℕ → List Token → Type 0
Spells text ts = (at : ℕ) (rest : List ℕ) → Stops rest → (end : ℕ) × (kinds (tokens_from at (text ++ rest)) ≡ ts ++ kinds (tokens_from end rest))

-- bytes of a word, one or more, have that word as their one token
pub word_is_one_token : (w : List ℕ) → AllWord w → 0 < length w → Spells w (Word w ∷ [])
word_is_one_token [] all some = absurd (omega arith)
word_is_one_token (b ∷ w) all some = λ at rest stops. (at + suc (length w), ap kinds (whole_word at b w rest all.0 all.1 stops))
