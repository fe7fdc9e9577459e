-- How the characters of an identifier lie in as many bytes as the longest one has.
use Rattle.std.specs.Prelude.{ℕ, List, get_or, min, take}
use Rattle.lpis_tables.specs.Ids.{longest_id}

-- how many there are: the last byte says it, unless it is a character, since all of those are above
-- the most
abbrev pub count_in : List ℕ → ℕ
count_in bytes = min (get_or bytes 39 0) longest_id

-- the characters
abbrev pub characters_in : List ℕ → List ℕ
characters_in bytes = take (count_in bytes) bytes
