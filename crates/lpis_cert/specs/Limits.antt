-- The limits of a certificate's text.
use Rattle.std.specs.Prelude.{ℕ}

-- the most flats of all pieces, parcels and exact blocks
abbrev pub most_flats : ℕ
most_flats = 2000000

-- the greatest count of lines, and the greatest number of a triangle
abbrev pub greatest_count : ℕ
greatest_count = 4294967295

-- the number of the last edge of a pair of triangles
abbrev pub last_edge : ℕ
last_edge = 5

-- ---- margins that no sum passes; only private contracts cite them
-- numbers of a text
abbrev pub number_margin : ℕ
number_margin = 1000000000000000000
