-- Parts of a text that are digits or words.
use Rattle.std.specs.Prelude.{◌≡◌, ℕ, ◌+◌, ◌<◌, ◌≤◌, Bool, true, false, List, [], ◌∷◌, ◌++◌, length}
use Rattle.std.specs.Prelude.{◌-◌, ◌*◌, ◌^◌, drop, not, ◌||◌, ◌==◌, Ok}
use Rattle.std.specs.List.{before_first, after_first, list_all}
use Rattle.std.specs.Char.{is_ascii_digit}
use Rattle.std.specs.Str.Parse.{digits_value}
use Rattle.lpis_wkt.specs.Number.{is_point, padded, number_within, signed}
use Rattle.lpis_wkt.specs.Number.{unsigned, is_negative}
use Rattle.lpis_wkt.specs.Tokens.{is_space}

-- the digit 0
abbrev pub is_zero_digit : ℕ → Bool
is_zero_digit b = b == 48

-- a byte of a word: any but white space, `(`, `)` and `,`
abbrev pub is_word : ℕ → Bool
is_word b = not (is_space b || (b == 40) || (b == 41) || (b == 44))

-- these bytes stand from an offset up to another
pub record IsPart (text : List ℕ) (at end : ℕ) (part : List ℕ) : Type 0 where
  pub from : drop at text ≡ part ++ drop end text
  pub past : end ≡ at + length part
  pub within : end ≤ length text

abbrev pub AllWord : List ℕ → Type 0
AllWord [] = Unit {0}
AllWord (b ∷ bs) = (is_word b ≡ true) × AllWord bs

-- no word goes on here
abbrev pub Stops : List ℕ → Type 0
Stops [] = Unit {0}
Stops (b ∷ bs) = is_word b ≡ false

-- a numeral with no sign that has a digit before its point, no digit past so many decimals, and a
-- size that is not past the greatest
pub record IsPlain (most greatest : ℕ) (body : List ℕ) (n : ℕ) : Type 0 where
  pub whole : list_all is_ascii_digit (before_first is_point body) ≡ true
  pub decimals : list_all is_ascii_digit (after_first is_point body) ≡ true
  pub some : 0 < length (before_first is_point body)
  pub fine : list_all is_zero_digit (drop most (after_first is_point body)) ≡ true
  pub size : n ≡ digits_value 10 (before_first is_point body
      ++ padded most (after_first is_point body))
  pub few : n ≤ greatest
  pub without_sign : unsigned body ≡ body
  pub positive : is_negative body ≡ false
  pub word : AllWord body

-- nothing, or a point and decimals, and what they are worth in units of the last of so many
pub data IsTail : ℕ → List ℕ → ℕ → Type 0 where
  nothing : {most : ℕ} → IsTail most [] 0
  point : {most : ℕ} (ds : List ℕ) → list_all is_ascii_digit ds ≡ true → length ds ≤ most
      → IsTail most (46 ∷ ds) (digits_value 10 ds * 10 ^ (most - length ds))

-- the sign of a number, and whether it is negative
pub data IsSign : List ℕ → Bool → Type 0 where
  none : IsSign [] false
  plus : IsSign (43 ∷ []) false
  minus : IsSign (45 ∷ []) true

-- from an offset up to another stands a word that spells a number of this sign and size
pub record SpellsAt (most greatest : ℕ) (text : List ℕ) (at end : ℕ) (negative : Bool) (n : ℕ)
    (word : List ℕ) : Type 0 where
  pub part : IsPart text at end word
  pub some : 0 < length word
  pub letters : AllWord word
  pub number : number_within most greatest word ≡ Ok (signed negative n)
  pub few : n ≤ greatest
