-- The tables of the register: their names, what is asked of each, and which were found.
use Rattle.std.specs.Prelude.{◌≡◌, ◌∷◌, [], ℕ, Bool, IsUtf8, List, codes}
use Rattle.sqlite.specs.Order.{Row}
use Rattle.sqlite.specs.Values.{IsInt}
use Rattle.sqlite.specs.declared.types.Value.{Value}
use Rattle.sqlite.specs.declared.types.Value.TheVariants.{Text}
use Rattle.lpis_register_sql.specs.declared.found.Found.{Found}

-- a table of the register, of any version
pub data StoredTable : Type 0 where
  Formats : StoredTable
  Years : StoredTable
  Spans : StoredTable
  Lines : StoredTable
  Lives : StoredTable
  Texts : StoredTable
  Marks : StoredTable

-- its name
abbrev pub name_of : StoredTable → List ℕ
name_of Formats = codes "lpis_format"
name_of Years = codes "lpis_release"
name_of Spans = codes "lpis_span"
name_of Lines = codes "lpis_row"
name_of Lives = codes "lpis_live"
name_of Texts = codes "lpis_text"
name_of Marks = codes "lpis_mark"

-- the query that reads it
abbrev pub query_of : StoredTable → List ℕ
query_of Formats = codes "SELECT one, version FROM lpis_format"
query_of Years = codes "SELECT year FROM lpis_release"
query_of Spans = codes "SELECT id, since, until FROM lpis_span"
query_of Lines = codes "SELECT year, pos, old, new FROM lpis_row"
query_of Lives = codes "SELECT year, id FROM lpis_live"
query_of Texts = codes "SELECT id, wkt FROM lpis_text"
query_of Marks = codes "SELECT year, pos FROM lpis_mark"

-- what a column is read as
pub data ColumnKind : Type 0 where
  Number : ColumnKind
  Words : ColumnKind

abbrev pub kinds_of : StoredTable → List ColumnKind
kinds_of Formats = Number ∷ Number ∷ []
kinds_of Years = Number ∷ []
kinds_of Spans = Words ∷ Number ∷ Number ∷ []
kinds_of Lines = Number ∷ Number ∷ Words ∷ Words ∷ []
kinds_of Lives = Number ∷ Words ∷ []
kinds_of Texts = Words ∷ Words ∷ []
kinds_of Marks = Number ∷ Number ∷ []

abbrev pub IsOfKind : ColumnKind → Value → Type 0
IsOfKind Number v = IsInt v
IsOfKind Words v = (text : List ℕ) × (v ≡ Text text) × IsUtf8 text

-- the row has such columns
abbrev pub HasColumns : List ColumnKind → Row → Type 0
HasColumns [] row = Unit {0}
HasColumns (k ∷ kinds) [] = ⊥
HasColumns (k ∷ kinds) (v ∷ row) = IsOfKind k v × HasColumns kinds row

-- whether it was found
abbrev pub is_read : Found → StoredTable → Bool
is_read found Formats = found.format
is_read found Years = found.years
is_read found Spans = found.spans
is_read found Lines = found.lines
is_read found Lives = found.lives
is_read found Texts = found.texts
is_read found Marks = found.marks
