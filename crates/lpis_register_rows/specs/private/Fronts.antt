-- A history put together release by release, beside one that the rows say.
use Rattle.std.specs.Prelude.{◌≡◌, ◌<◌, ◌≤◌, ◌+◌, ◌++◌, ◌∷◌, [], ℕ, pos, List, length, map, take}
use Rattle.lpis_lineage.specs.declared.row.Entry.{Entry}
use Rattle.lpis_lineage.specs.Lineage.{entry_at, holds}
use Rattle.lpis_register_rows.specs.declared.known.KnownLine.{KnownLine}
use Rattle.lpis_register_rows.specs.declared.known.KnownSpan.{KnownSpan}
use Rattle.lpis_register_rows.specs.Histories.{IsKeptHistory, years_of}
use Rattle.lpis_register_rows.specs.private.Known.{SetsAre, known_of, known_line_at, span_in}

-- the lines from one position up to another are those of a year, by their positions from 0, and the
-- next is not
pub record IsRun (lines : List KnownLine) (from year stop : ℕ) : Type 0 where
  pub within : from ≤ stop
  pub here : (k : ℕ) → from + k < stop → ((known_line_at lines (from + k)).year ≡ pos year)
      × ((known_line_at lines (from + k)).position ≡ pos k)
  pub after : (known_line_at lines stop).year ≡ pos year → ⊥

-- the releases of the one history are the first ones of the other
pub record IsFront (g h : List Entry) : Type 0 where
  pub short : length g ≤ length h
  pub years : (i : ℕ) → i < length g → (entry_at g i).year ≡ (entry_at h i).year
  pub sets : (i : ℕ) → i < length g → (id : List ℕ) → holds g i id ≡ holds h i id
  pub rows : (i : ℕ) → i < length g → (entry_at g i).rows ≡ (entry_at h i).rows

-- the spans and the sorted lines say this history
pub record HasKnownHistory (spans : List KnownSpan) (lines : List KnownLine)
    (h : List Entry) : Type 0 where
  pub kept : IsKeptHistory h
  pub sets : SetsAre (map span_in spans) h
  pub lines_are : known_of h ≡ lines

-- a history is the front of another, of which the next release is of this year and has its lines
-- from this position on
pub record IsDue (g : List Entry) (lines : List KnownLine) (from year : ℕ) (h : List Entry) : Type 0
  where
    pub front : IsFront g h
    pub more : length g < length h
    pub year_is : (entry_at h (length g)).year ≡ year
    pub lines_are : known_of g ≡ take from lines

-- the release of a year is added to a history, with the rows of the lines from one position up to
-- the next
pub record AddsYear (spans : List KnownSpan) (lines : List KnownLine) (year from next : ℕ)
    (old new : List Entry) : Type 0 where
  pub within : next ≤ length lines
  pub years : years_of new ≡ years_of old ++ pos year ∷ []
  pub sets : SetsAre (map span_in spans) old → SetsAre (map span_in spans) new
  pub lines_are : known_of old ≡ take from lines → known_of new ≡ take next lines
  pub front : (h : List Entry) → HasKnownHistory spans lines h → IsDue old lines from year h
      → IsFront new h
