-- What was read of rows: machinery, which only private contracts cite.
use Rattle.std.specs.Prelude.{◌≡◌, ◌<◌, ◌≤◌, ◌+◌, ◌⊎◌, ◌&&◌, ◌++◌, ◌∷◌, [], true, false, ℕ, zero}
use Rattle.std.specs.Prelude.{suc}
use Rattle.std.specs.Prelude.{ℤ, pos, negsuc, List, length, None, Some}
use Rattle.std.specs.Prelude.{if◌then◌else◌}
use Rattle.std.specs.List.{AllByRecursion, list_any}
use Rattle.std.specs.Ordering.{int_cmp, ordering_then}
use Rattle.std.specs.declared.cmp.Ordering.{Ordering}
use Rattle.lpis_tables.specs.Ids.{has_id, is_id, same_id}
use Rattle.lpis_lineage.specs.declared.row.Entry.{Entry}
use Rattle.lpis_lineage.specs.declared.row.Row.{Row}
use Rattle.lpis_lineage.specs.Lineage.{entry_at, holds}
use Rattle.lpis_register_rows.specs.declared.known.KnownSpan.{KnownSpan}
use Rattle.lpis_register_rows.specs.declared.known.KnownLine.{KnownLine}
use Rattle.lpis_register_rows.specs.Content.{Line, Live, StoredSpan, successor_text}
use Rattle.lpis_register_rows.specs.Histories.{last_of_years}
use Rattle.lpis_register_rows.specs.Shapes.{Shape}
use Rattle.lpis_register_rows.specs.declared.version.Version.{Version}
use Rattle.lpis_register_rows.specs.declared.version.Version.TheVariants.{First, Second, Third}
use Rattle.lpis_register_rows.specs.private.Covering.{covers}

-- the number of a version, which the row of `lpis_format` tells
abbrev pub number_of : Version → ℕ
number_of First = 1
number_of Second = 2
number_of Third = 3

abbrev pub span_in : KnownSpan → StoredSpan
span_in s = record { id = s.id; since = s.since; until = s.until }

abbrev pub line_in : KnownLine → Line
line_in l =
    record { year = l.year; position = l.position; old = l.row.old; new = successor_text l.row.new }

-- the identifiers of releases, one after the other
abbrev pub all_live : List Entry → List (List ℕ)
all_live [] = []
all_live (e ∷ h) = e.live ++ all_live h

-- a live row as a span of one year
abbrev pub one_year : Live → StoredSpan
one_year l = record { id = l.id; since = l.year; until = l.year }

-- each release holds the identifiers whose span covers its year
abbrev pub SetsAre : List StoredSpan → List Entry → Type 0
SetsAre spans h = (i : ℕ) → i < length h → (id : List ℕ)
    → holds h i id ≡ list_any (λ s. same_id id s.id && covers s (entry_at h i).year) spans

-- a successor's text is not empty
abbrev pub HasText : Row → Type 0
HasText r = r.new ≡ Some [] → ⊥

-- a year that a release can have
abbrev pub IsReleaseYear : ℤ → Type 0
IsReleaseYear z = (y : ℕ) × (z ≡ pos y) × (0 < y) × (y ≤ last_of_years)

-- the texts of a line can be read: the old identifier is one, and so is the successor, or it is
-- empty
abbrev pub IsReadable : Line → Type 0
IsReadable l = (is_id l.old ≡ true) × ((l.new ≡ []) ⊎ (is_id l.new ≡ true))

-- lines ascend by year, and in it by position
abbrev pub line_cmp : Line → Line → Ordering
line_cmp a b = ordering_then (int_cmp a.year b.year) (int_cmp a.position b.position)

-- the rows of a year's release, of which the first has this position
abbrev pub known_from : ℤ → ℕ → List Row → List KnownLine
known_from year n [] = []
known_from year n (r ∷ rs) =
    (record { year = year; position = pos n; row = r }) ∷ known_from year (n + 1) rs

-- the rows of all releases, each with its year and its position
abbrev pub known_of : List Entry → List KnownLine
known_of [] = []
known_of (e ∷ h) = known_from (pos e.year) 0 e.rows ++ known_of h

-- the line at a position of a list; past the end one of no year
abbrev pub known_line_at : List KnownLine → ℕ → KnownLine
known_line_at [] i = record {
  year = negsuc 0;
  position = negsuc 0;
  row = record { old = []; new = None; exact = false };
}
known_line_at (l ∷ ls) zero = l
known_line_at (l ∷ ls) (suc i) = known_line_at ls i

-- ---- shapes

abbrev pub HasId : Shape → Type 0
HasId shape = is_id shape.0 ≡ true

-- their identifiers are among these
abbrev pub AreAmong : List (List ℕ) → List Shape → Type 0
AreAmong ids shapes = AllByRecursion (λ (shape : Shape). has_id ids shape.0 ≡ true) shapes

-- what is left once the first is passed, where it bears this identifier
abbrev pub passed : List Shape → List ℕ → List Shape
passed [] id = []
passed (shape ∷ shapes) id = if same_id shape.0 id then shapes else shape ∷ shapes
