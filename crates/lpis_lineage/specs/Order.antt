-- The order of identifiers.
use Rattle.std.specs.Prelude.{ℕ, List}
use Rattle.std.specs.List.Sorted.{IsStrictlySortedBy}
use Rattle.std.specs.Ordering.{nat_cmp}
use Rattle.std.specs.Cmp.Lexicographic.{slice_cmp}

-- identifiers ascend by their bytes, each once
abbrev pub IsAscending : List (List ℕ) → Type 0
IsAscending ids = IsStrictlySortedBy (slice_cmp nat_cmp) ids
