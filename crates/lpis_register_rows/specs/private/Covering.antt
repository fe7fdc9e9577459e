-- Which years a row of spans gives its identifier to.
use Rattle.std.specs.Prelude.{◌&&◌, ◌||◌, Bool, ℕ, pos}
use Rattle.std.specs.Ordering.{int_eq}
use Rattle.std.specs.Int.Signed.{le_z}
use Rattle.lpis_register_rows.specs.Content.{StoredSpan}

-- a row of `lpis_span` gives its identifier to a year's release: since <= year and (until = 0 or
-- year <= until)
abbrev pub covers : StoredSpan → ℕ → Bool
covers s year = le_z s.since (pos year) && (int_eq s.until (pos 0) || le_z (pos year) s.until)
