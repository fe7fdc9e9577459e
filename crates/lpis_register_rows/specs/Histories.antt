-- What the tables say as a history: relations over whole lists, up to the order of rows.
use Rattle.std.specs.Prelude.{◌≡◌, ◌<◌, ◌≤◌, ◌++◌, true, ℕ, ℤ, pos, List, []}
use Rattle.std.specs.Prelude.{◌∷◌, length, Option, None, Some, IsPermutation}
use Rattle.std.specs.List.{AllByRecursion, Contains, filter, list_any}
use Rattle.lpis_tables.specs.Ids.{is_id, same_id}
use Rattle.lpis_lineage.specs.declared.row.Entry.{Entry}
use Rattle.lpis_lineage.specs.declared.span.Span.{Span as Years}
use Rattle.lpis_lineage.specs.Lawful.{IsLawful, RowsFit}
use Rattle.lpis_lineage.specs.Lineage.{entry_at, holds}
use Rattle.lpis_lineage.specs.Spans.{span_of}
use Rattle.lpis_register_rows.specs.Content.{Content, Format, Line, Live, Mark, StoredSpan}
use Rattle.lpis_register_rows.specs.Content.{lines_from, marks_from}
use Rattle.lpis_register_rows.specs.declared.version.Version.{Version}
use Rattle.lpis_register_rows.specs.declared.version.Version.TheVariants.{First, Second, Third}

-- the greatest year
abbrev pub last_of_years : ℕ
last_of_years = 65535

-- a history that tables may say: lawful, with fitting rows, well-formed identifiers, and years up
-- to the greatest
pub record IsKeptHistory (h : List Entry) : Type 0 where
  pub lawful : IsLawful h
  pub fits : RowsFit h
  pub ids : (id : List ℕ) (i : ℕ) → holds h i id ≡ true → is_id id ≡ true
  pub years : (i : ℕ) → (entry_at h i).year ≤ last_of_years

abbrev pub years_of : List Entry → List ℤ
years_of [] = []
years_of (e ∷ h) = pos e.year ∷ years_of h

-- the rows of lineage of all releases, each with its year and its position
abbrev pub lineage_lines : List Entry → List Line
lineage_lines [] = []
lineage_lines (e ∷ h) = lines_from (pos e.year) 0 e.rows ++ lineage_lines h

-- the marks of all releases, one for each row of lineage that is marked exact
abbrev pub marks_of : List Entry → List Mark
marks_of [] = []
marks_of (e ∷ h) = marks_from (pos e.year) 0 e.rows ++ marks_of h

-- a span as the table shows it
abbrev pub shown_span : Option Years → Option (ℤ × ℤ)
shown_span None = None
shown_span (Some s) = Some (pos s.first, pos s.last)

-- the row is the span of its identifier: `since` is the year of the first release that holds it;
-- `until` is 0 while it is live in the last release, else the year of the last release that held it
abbrev pub IsSpanRow : List Entry → StoredSpan → Type 0
IsSpanRow h s = shown_span (span_of h s.id) ≡ Some (s.since, s.until)

-- the rows of `lpis_span` are the spans of the history's identifiers
pub record AreSpansOf (spans : List StoredSpan) (h : List Entry) : Type 0 where
  -- no identifier has two
  pub once : (id : List ℕ) → length (filter (λ s. same_id id s.id) spans) ≤ 1
  pub right : AllByRecursion (IsSpanRow h) spans
  -- each identifier of a release has one
  pub whole : (id : List ℕ) (i : ℕ) → holds h i id ≡ true → list_any (λ s. same_id id s.id) spans
      ≡ true

-- the one row of `lpis_format`
abbrev pub only_format : ℕ → List Format
only_format version = (record { one = pos 1; version = pos version }) ∷ []

-- what tables of a version with spans say, where these are the marks
pub record HasHistoryBySpans (version : ℕ) (marks : List Mark) (c : Content) (h : List Entry)
    : Type 0 where
  pub kept : IsKeptHistory h
  pub formats_are : c.formats ≡ only_format version
  pub years_are : IsPermutation c.years (years_of h)
  pub spans_are : AreSpansOf c.spans h
  pub lines_are : IsPermutation c.lines (lineage_lines h)
  pub marks_are : IsPermutation marks (marks_of h)

-- what tables of version 3 say
abbrev pub HasHistory : Content → List Entry → Type 0
HasHistory c h = HasHistoryBySpans 3 c.marks c h

-- the rows of `lpis_live` are the identifiers of the releases
pub record AreLiveOf (live : List Live) (h : List Entry) : Type 0 where
  pub right : (l : Live) → Contains live l → (i : ℕ) × (i < length h)
      × (l.year ≡ pos (entry_at h i).year) × (holds h i l.id ≡ true)
  pub whole : (id : List ℕ) (i : ℕ) → holds h i id ≡ true
      → Contains live (record { year = pos (entry_at h i).year; id = id })

-- what tables of version 1 say
pub record HasHistoryByLive (c : Content) (h : List Entry) : Type 0 where
  pub kept : IsKeptHistory h
  pub formats_are : c.formats ≡ only_format 1
  pub years_are : IsPermutation c.years (years_of h)
  pub live_are : AreLiveOf c.live h
  pub lines_are : IsPermutation c.lines (lineage_lines h)
  -- it has no marks
  pub unmarked : marks_of h ≡ []

-- what tables of a version say: before version 3 there are no marks
abbrev pub TablesHave : Version → Content → List Entry → Type 0
TablesHave First c h = HasHistoryByLive c h
TablesHave Second c h = HasHistoryBySpans 2 [] c h
TablesHave Third c h = HasHistory c h

-- the same rows in another order
pub record IsSameContent (c d : Content) : Type 0 where
  pub formats : IsPermutation c.formats d.formats
  pub years : IsPermutation c.years d.years
  pub spans : IsPermutation c.spans d.spans
  pub lines : IsPermutation c.lines d.lines
  pub live : IsPermutation c.live d.live
  pub texts : IsPermutation c.texts d.texts
  pub marks : IsPermutation c.marks d.marks

-- two histories are the same: the same years, sets and rows
pub record IsSameHistory (h k : List Entry) : Type 0 where
  pub lengths : length h ≡ length k
  pub years : (i : ℕ) → (entry_at h i).year ≡ (entry_at k i).year
  pub sets : (i : ℕ) (id : List ℕ) → holds h i id ≡ holds k i id
  pub rows : (i : ℕ) → (entry_at h i).rows ≡ (entry_at k i).rows
