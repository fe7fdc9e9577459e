-- What the files before the regions came to.
use Rattle.std.specs.Prelude.{◌≡◌, ◌++◌, ◌∷◌, [], ℕ, List, Option, Err, length, map}
use Rattle.std.specs.Option.{option_map}
use Rattle.lpis_tables.specs.declared.fault.TableFault.{TableFault}
use Rattle.lpis_tables.specs.Faults.{rows_of}
use Rattle.lpis_lineage.specs.declared.row.Row.{Row}
use Rattle.lpis_lineage.specs.LineageTable.{lineage_table}
use Rattle.lpis_run.specs.CheckAnswer.{Answer}
use Rattle.lpis_run.specs.Refusals.{line_in_region, refusal_text}
use Rattle.lpis_run.specs.Status.{unreadable}
use Rattle.lpis_run.specs.declared.failure.Failure.{Failure}
use Rattle.lpis_country.specs.Tree.{Tree}
use Rattle.lpis_run.specs.Inputs.{top_of}
use Rattle.lpis_run_country.specs.Beginning.{IsBegun}
use Rattle.lpis_run_publish_country.specs.CountryLineage.{AreTablesOf, AtTable, IsTableOf}
use Rattle.lpis_run_publish_country.specs.CountryLineage.{IsTableRefused, IsUnreadTable, rows_in}
use Rattle.lpis_run_publish_country.specs.PublishCountryAnswer.{AreSaid, CountryFiles, CountrySaid}
use Rattle.lpis_run_publish_country.specs.PublishCountryAnswer.{PublishCountryInputs}
use Rattle.lpis_run_publish_country.specs.declared.inputs.Prepared.{Prepared}
use Rattle.lpis_run_publish_country.specs.declared.inputs.PublishCountryBytes.{PublishCountryBytes}
use Rattle.lpis_run_publish_country.specs.declared.lineage.CountryLineage.{CountryLineage}

-- ---- lineage
-- the line of the first fault of a table, with its region
abbrev pub IsTableRefusal : List ℕ → List ℕ → Answer → Type 0
IsTableRefusal name table a = (fault : TableFault) × (rows_of lineage_table table ≡ Err fault)
    × (a ≡ (line_in_region (refusal_text fault) name, unreadable))

-- that of one of these folders is refused
abbrev pub AreTablesRefused : (List ℕ → Option (List ℕ)) → List (List ℕ) → Answer → Type 0
AreTablesRefused told names a = AtTable told names (λ name. IsTableRefused told name a)

-- or not read
abbrev pub AreTablesUnread : (List ℕ → Option (List ℕ)) → List (List ℕ) → Failure → Type 0
AreTablesUnread told names f = AtTable told names (λ name. IsUnreadTable name f)

-- it has the rows of these tables
pub record HasTables (l : CountryLineage) (tables : List (List Row)) : Type 0 where
  pub rows_are : l.rows.items ≡ rows_in tables
  pub counts_are : l.counts.items ≡ map (λ (rows : List Row). length rows) tables

-- it has the rows of the tables in these folders
abbrev pub AreRowsOf : (List ℕ → Option (List ℕ)) → List (List ℕ) → CountryLineage → Type 0
AreRowsOf told names l = (tables : List (List Row)) × AreTablesOf told names tables
    × HasTables l tables

-- the rows of a table come behind those that are there
pub record AddsTable (old new : CountryLineage) (rows : List Row) : Type 0 where
  pub rows_are : new.rows.items ≡ old.rows.items ++ rows
  pub counts_are : new.counts.items ≡ old.counts.items ++ length rows ∷ []

-- the rows of the table in a folder were added
abbrev pub IsTableAdded : (List ℕ → Option (List ℕ)) → List ℕ → CountryLineage → CountryLineage
    → Type 0
IsTableAdded told name old new = (rows : List Row) × IsTableOf told name rows
    × AddsTable old new rows

-- ---- all of them
abbrev pub inputs_of : PublishCountryBytes → PublishCountryInputs
inputs_of b = record {
  country = top_of b.country;
  exact = option_map (λ v. v.items) b.exact;
}

-- what was prepared says this, with a plan and tables of lineage
abbrev pub said_of : Tree → Prepared → List (List Row) → CountrySaid
said_of plan p tables = record {
  plan = plan;
  classes = p.begun.classes;
  blocks = p.cert.exact;
  tables = tables;
}

-- what the files before the regions say
pub record IsPrepared (given : CountryFiles) (x : PublishCountryInputs) (p : Prepared) : Type 0
  where
    pub begun : IsBegun x.country p.begun
    pub tables : List (List Row)
    pub said : AreSaid given x (said_of begun.plan p tables)
    pub has : HasTables p.lineage tables
