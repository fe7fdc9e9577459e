-- The limits of a country's plan.
use Rattle.std.specs.Prelude.{ℕ}

-- the most regions of a country
abbrev pub most_regions : ℕ
most_regions = 10000

-- the most characters of a region's name
abbrev pub longest_name : ℕ
longest_name = 100
