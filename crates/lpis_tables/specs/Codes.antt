-- The codes of faults and the names of tables.
use Rattle.std.specs.Prelude.{ℕ, List, codes}
use Rattle.lpis_tables.specs.declared.fault.Table.{Table}
use Rattle.lpis_tables.specs.declared.fault.Table.TheVariants.{Area, Parcels, Covers, Classes}
use Rattle.lpis_tables.specs.declared.fault.Table.TheVariants.{Lineage}
use Rattle.lpis_tables.specs.declared.fault.TableCode.{TableCode}
use Rattle.lpis_tables.specs.declared.fault.TableCode.TheVariants.{NotCsv, MissingColumn}
use Rattle.lpis_tables.specs.declared.fault.TableCode.TheVariants.{DoubledColumn, BadIdentifier}
use Rattle.lpis_tables.specs.declared.fault.TableCode.TheVariants.{DoubledIdentifier, UnknownParcel}
use Rattle.lpis_tables.specs.declared.fault.TableCode.TheVariants.{UnknownClass}
use Rattle.lpis_tables.specs.declared.fault.TableCode.TheVariants.{ParcelWithoutPieces, BadGeometry}
use Rattle.lpis_tables.specs.declared.fault.TableCode.TheVariants.{BadEligible, TooManyRows}
use Rattle.lpis_tables.specs.declared.fault.TableCode.TheVariants.{BadPercent, BadMark}

-- a table's name
abbrev pub table_text : Table → List ℕ
table_text Area = codes "area"
table_text Parcels = codes "parcels"
table_text Covers = codes "covers"
table_text Classes = codes "classes"
table_text Lineage = codes "lineage"

-- the two characters of a code
abbrev pub table_code_text : TableCode → List ℕ
table_code_text NotCsv = codes "30"
table_code_text MissingColumn = codes "31"
table_code_text DoubledColumn = codes "32"
table_code_text BadIdentifier = codes "33"
table_code_text DoubledIdentifier = codes "34"
table_code_text UnknownParcel = codes "35"
table_code_text UnknownClass = codes "36"
table_code_text ParcelWithoutPieces = codes "37"
table_code_text BadGeometry = codes "38"
table_code_text BadEligible = codes "39"
table_code_text TooManyRows = codes "3a"
table_code_text BadPercent = codes "3b"
table_code_text BadMark = codes "3c"
