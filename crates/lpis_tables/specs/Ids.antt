-- Identifiers: 1 to 40 characters of a few kinds, compared by their bytes.
use Rattle.std.specs.Prelude.{◌&&◌, ◌||◌, ◌==◌, Bool, ℕ, List, length, nat_eq, nat_le}
use Rattle.std.specs.Cmp.Lexicographic.{pointwise}
use Rattle.std.specs.List.{list_all, list_any}

-- the most characters of an identifier
abbrev pub longest_id : ℕ
longest_id = 40

abbrev pub between : ℕ → ℕ → ℕ → Bool
between low high b = nat_le low b && nat_le b high

-- a character of an identifier: A-Z, a-z, 0-9 or one of . _ : / -
abbrev pub is_id_byte : ℕ → Bool
is_id_byte b =
    between 65 90 b
    || (between 97 122 b
    || (between 48 57 b || (b == 46 || (b == 95 || (b == 58 || (b == 47 || b == 45))))))

-- the bytes of an identifier: 1 to the most of these characters
abbrev pub is_id : List ℕ → Bool
is_id bytes = (nat_le 1 (length bytes) && nat_le (length bytes) longest_id)
    && list_all is_id_byte bytes

-- two identifiers are equal: they are compared by their bytes
abbrev pub same_id : List ℕ → List ℕ → Bool
same_id a b = pointwise nat_eq a b

-- an identifier is among these
abbrev pub has_id : List (List ℕ) → List ℕ → Bool
has_id ids id = list_any (same_id id) ids
