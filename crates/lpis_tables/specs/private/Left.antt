-- The records that a reader of a text has left, as a list.
use Rattle.std.specs.Prelude.{◌≡◌, ◌≢◌, ◌∷◌, ◌+◌, Bool, false, ℕ, List, [], length, Option, Some}
use Rattle.std.specs.Prelude.{None, IfSome, if◌then◌else◌}
use Rattle.std.specs.Borrow.{Bor}
use Rattle.csv.specs.Machine.{ends_at_end}
use Rattle.csv.specs.Reading.{Ready, default_config, expected_len, is_flexible, reader_config}
use Rattle.csv.specs.Reading.{reader_state, reader_trim, records_from, source_of}
use Rattle.csv.specs.declared.parser.State.{State}
use Rattle.csv.specs.declared.reader.Reader.{Reader}
use Rattle.csv.specs.declared.reader.Trim.TheVariants as trim
use Rattle.lpis_tables.specs.declared.records.Step.{Step}
use Rattle.lpis_tables.specs.declared.records.Step.TheVariants as step

-- a reader of bytes in memory
abbrev pub BytesReader : Type 0
BytesReader = Reader (Bor (List ℕ))

-- the bytes that a reader has left
abbrev pub bytes_left : BytesReader → Option (List ℕ)
bytes_left r = source_of (λ (s : Bor (List ℕ)). Some s.now) r

-- the records of a text from a state
abbrev pub records_at : State → Option (List ℕ) → List (List (List ℕ))
records_at s None = []
records_at s (Some xs) = records_from default_config (length xs + 1) s xs

-- the records that a reader has left
abbrev pub records_left : BytesReader → List (List (List ℕ))
records_left r = records_at (reader_state r) (bytes_left r)

-- a reader with the usual settings and no header row, between two records of a text that is known
pub record IsBetween (r : BytesReader) : Type 0 where
  pub trim : reader_trim r ≡ trim.None
  pub ready : Ready r
  pub config : reader_config r ≡ default_config
  pub strict : is_flexible r ≡ false
  pub between : ends_at_end (reader_state r) ≡ false
  pub text : List ℕ
  pub left : bytes_left r ≡ Some text

-- what one read of a reader does
abbrev pub Steps : BytesReader → BytesReader → Step → List (List ℕ) → Type 0
Steps old new step.End fields = records_left old ≡ []
Steps old new step.Record fields =
    IsBetween new × (records_left old ≡ fields ∷ records_left new)
    × (expected_len new ≡ Some (length fields))
    × IfSome (expected_len old) (λ n. length fields ≡ n)
Steps old new step.Uneven fields =
    (odd : List (List ℕ)) × (more : List (List (List ℕ))) × (records_left old ≡ odd ∷ more)
    × (n : ℕ) × (expected_len old ≡ Some n) × (length odd ≢ n)

-- the records that are left, and the length of the first of the text
pub record Left : Type 0 where
  pub width : ℕ
  pub records : List (List (List ℕ))

abbrev pub left_of : ℕ → Bool → BytesReader → Left
left_of width ended r = record { width = width; records = if ended then [] else records_left r }

-- what `Records` keeps
abbrev pub LeftByRecords : ℕ → Bool → BytesReader → Type 0
LeftByRecords width ended r = ended ≡ false → IsBetween r × (expected_len r ≡ Some width)

-- what one read does to what is left
abbrev pub ReadMoves : Left → Left → Step → List (List ℕ) → Type 0
ReadMoves old new step.End fields = (old.records ≡ []) × (new.records ≡ [])
ReadMoves old new step.Record fields = (old.records ≡ fields ∷ new.records)
    × (length fields ≡ old.width) × (new.width ≡ old.width)
ReadMoves old new step.Uneven fields =
    (odd : List (List ℕ)) × (more : List (List (List ℕ))) × (old.records ≡ odd ∷ more)
    × (length odd ≢ old.width)
