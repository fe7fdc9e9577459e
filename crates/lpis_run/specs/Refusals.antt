-- The lines of refusals.
use Rattle.std.specs.Prelude.{◌-◌, ℕ, List, [], ◌++◌, codes, length, take, Option, Some, None}
use Rattle.std.specs.Fmt.{decimal}
use Rattle.lpis_wkt.specs.declared.fault.WktFault.{WktFault}
use Rattle.lpis_wkt.specs.declared.fault.WktFault.TheVariants as wkt
use Rattle.lpis_wkt.specs.Codes.{wkt_code_text}
use Rattle.lpis_tables.specs.declared.fault.TableFault.{TableFault}
use Rattle.lpis_tables.specs.declared.fault.TableFault.TheVariants as table
use Rattle.lpis_tables.specs.Codes.{table_code_text, table_text}
use Rattle.lpis_cert.specs.declared.fault.CertFault.{CertFault}
use Rattle.lpis_cert.specs.declared.fault.CertFault.TheVariants as cert
use Rattle.lpis_cert.specs.Codes.{cert_code_text}
use Rattle.lpis_checker.specs.declared.fault.CheckFault.{CheckFault}
use Rattle.lpis_checker.specs.declared.fault.CheckFault.TheVariants as check
use Rattle.lpis_checker.specs.declared.fault.Location.{Location}
use Rattle.lpis_checker.specs.declared.fault.Location.TheVariants.{Piece, Parcel, Pair}
use Rattle.lpis_checker.specs.Codes.{check_code_text}

-- where a text is no polygon; out of memory is no fault of a text, and has no line
abbrev pub wkt_text : Option WktFault → List ℕ
wkt_text None = []
wkt_text (Some wkt.Memory) = []
wkt_text (Some (wkt.At code offset)) = codes " wkt " ++ wkt_code_text code ++ codes " at "
    ++ decimal offset

-- of a table: the code, the table, the row and, where the row has a text that is no polygon, the
-- fault of that text
abbrev pub refusal_text : TableFault → List ℕ
refusal_text table.Memory = []
refusal_text (table.At code name row wkt) =
    codes "refused " ++ table_code_text code ++ codes " " ++ table_text name ++ codes " row "
    ++ decimal row ++ wkt_text wkt ++ codes "\n"

-- of a certificate's text: the code and the number of the line
abbrev pub cert_refusal_text : CertFault → List ℕ
cert_refusal_text cert.Memory = []
cert_refusal_text (cert.At code line) = codes "refused " ++ cert_code_text code
    ++ codes " cert line " ++ decimal line ++ codes "\n"

-- a piece or a parcel by its identifier, or two triangles by their numbers
abbrev pub location_text : Location → List ℕ
location_text (Piece id) = codes "piece " ++ id
location_text (Parcel id) = codes "parcel " ++ id
location_text (Pair i j) = codes "pair " ++ decimal i ++ codes " " ++ decimal j

-- of a certificate that is not good: the code and the location
abbrev pub check_refusal_text : CheckFault → List ℕ
check_refusal_text check.Memory = []
check_refusal_text (check.At code location) = codes "refused " ++ check_code_text code
    ++ codes " " ++ location_text location ++ codes "\n"

-- the end of a line that is of a region
abbrev pub region_end : List ℕ → List ℕ
region_end region = codes " region " ++ region ++ codes "\n"

-- a line with the region that it is of, at its end
abbrev pub line_in_region : List ℕ → List ℕ → List ℕ
line_in_region line region = take (length line - 1) line ++ region_end region
