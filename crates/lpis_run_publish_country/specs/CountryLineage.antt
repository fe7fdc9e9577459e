-- The lineage of a country: the tables of its regions, one after the other.
use Rattle.std.specs.Prelude.{◌≡◌, ◌⊎◌, ◌++◌, ◌∷◌, ◌-◌, [], ℕ, List, Option, None, Some, Ok, Err}
use Rattle.std.specs.Prelude.{flat_map, length, leb, cond}
use Rattle.std.specs.List.{AllZip}
use Rattle.lpis_tables.specs.declared.fault.TableFault.{TableFault}
use Rattle.lpis_tables.specs.Faults.{rows_of}
use Rattle.lpis_lineage.specs.declared.fault.LineageCode.{LineageCode}
use Rattle.lpis_lineage.specs.declared.fault.LineageFault.TheVariants.{OfRow}
use Rattle.lpis_lineage.specs.declared.row.Row.{Row}
use Rattle.lpis_lineage.specs.LineageTable.{lineage_table}
use Rattle.lpis_register.specs.declared.fault.PublishFault.{PublishFault}
use Rattle.lpis_register.specs.declared.fault.PublishFault.TheVariants as publish
use Rattle.lpis_run.specs.CheckAnswer.{Answer}
use Rattle.lpis_run.specs.Refusals.{line_in_region, refusal_text}
use Rattle.lpis_run.specs.Status.{unreadable}
use Rattle.lpis_run.specs.Streams.{IsRead}
use Rattle.lpis_run.specs.declared.failure.Failure.TheVariants.{Memory}
use Rattle.lpis_run.specs.declared.failure.Name.TheVariants.{Lineage}
use Rattle.lpis_run.specs.declared.failure.Failure.{Failure}
use Rattle.lpis_run_country.specs.CountryFailures.{IsReadOf}
use Rattle.lpis_run_publish.specs.LineageLines.{publish_refusal_text}

-- ---- tables
-- the bytes of the lineage table in the folder of a name, as far as they are known, say these rows
abbrev pub IsTableOf : (List ℕ → Option (List ℕ)) → List ℕ → List Row → Type 0
IsTableOf told name rows =
    (bytes : List ℕ) × IsRead bytes (told name) × (rows_of lineage_table bytes ≡ Ok rows)

-- a table for each of these folders, in their order
abbrev pub AreTablesOf : (List ℕ → Option (List ℕ)) → List (List ℕ) → List (List Row) → Type 0
AreTablesOf told names tables = AllZip (IsTableOf told) names tables

-- this is so of the table of one of these folders, and those before it have no fault
pub record AtTable (told : List ℕ → Option (List ℕ)) (names : List (List ℕ))
    (Is : List ℕ → Type 0) : Type 0 where
  pub passed : List (List ℕ)
  pub name : List ℕ
  pub left : List (List ℕ)
  pub all : names ≡ passed ++ name ∷ left
  pub tables : List (List Row)
  pub of_passed : AreTablesOf told passed tables
  pub is : Is name

-- the lineage table of the folder of this name has a fault: the line of the first, with its region
abbrev pub IsTableRefused : (List ℕ → Option (List ℕ)) → List ℕ → Answer → Type 0
IsTableRefused told name a = (bytes : List ℕ) × IsRead bytes (told name) × (fault : TableFault)
    × (rows_of lineage_table bytes ≡ Err fault)
    × (a ≡ (line_in_region (refusal_text fault) name, unreadable))

-- the lineage table of the folder of this name was not read; or memory ran out
abbrev pub IsUnreadTable : List ℕ → Failure → Type 0
IsUnreadTable name f = (f ≡ Memory) ⊎ IsReadOf Lineage name f

-- ---- rows
-- the rows of a country are those of its tables, one table after the other
abbrev pub rows_in : List (List Row) → List Row
rows_in tables = flat_map (λ (rows : List Row). rows) tables

-- a row of the country by its number there, which counts from 1: the folder of its table, and its
-- number in that table
abbrev pub row_place : List (List ℕ) → List (List Row) → ℕ → Option (List ℕ × ℕ)
row_place [] tables n = None
row_place (name ∷ names) [] n = None
row_place (name ∷ names) (rows ∷ tables) n = cond (leb n (length rows)) (Some (name, n))
    (row_place names tables (n - length rows))

-- ---- refusals
-- the line of a lineage that is refused for a row, with the region in which the row stands, and by
-- its number there
abbrev pub placed_refusal_text : LineageCode → ℕ → Option (List ℕ × ℕ) → List ℕ
placed_refusal_text code row None = publish_refusal_text (publish.Lineage (OfRow code row))
placed_refusal_text code row (Some p) =
    line_in_region (publish_refusal_text (publish.Lineage (OfRow code p.1))) p.0

-- the line of a country that the register refuses, whose folders have these names and tables
abbrev pub country_refusal_text : List (List ℕ) → List (List Row) → PublishFault → List ℕ
country_refusal_text names tables (publish.Lineage (OfRow code row)) =
    placed_refusal_text code row (row_place names tables row)
country_refusal_text names tables fault = publish_refusal_text fault
