-- The answer to a table of polygons: text and status, as a function of the table's bytes.
use Rattle.std.specs.Prelude.{◌≡◌, ◌∷◌, [], ℕ, List, Result, Ok, Err, codes, true}
use Rattle.std.specs.List.{flat_map}
use Rattle.lpis_rings.specs.declared.polygon.Member.{Member}
use Rattle.lpis_rings.specs.Area.{area2}
use Rattle.lpis_tables.specs.declared.fault.Table.TheVariants.{Area}
use Rattle.lpis_tables.specs.declared.fault.TableFault.{TableFault}
use Rattle.lpis_tables.specs.Faults.{RowsOf, polygon_faults, polygon_in, rows_of}
use Rattle.lpis_tables.specs.Table.{field_of}
use Rattle.lpis_run.specs.Area.{area_line}
use Rattle.lpis_run.specs.CheckAnswer.{Answer}
use Rattle.lpis_run.specs.Refusals.{refusal_text}
use Rattle.lpis_run.specs.Run.{OfRead}
use Rattle.lpis_run.specs.Status.{done, unreadable}
use Rattle.lpis_run.specs.Streams.{IsRead, Known}

-- a row is a polygon
abbrev pub area_table : RowsOf (List Member)
area_table = record {
  table = Area;
  columns = codes "wkt" ∷ [];
  further = [];
  enough = λ has. true;
  faults = λ keys n row. polygon_faults Area n (field_of row 0);
  value = λ row. polygon_in (field_of row 0);
}

-- the area of a polygon on a line
abbrev pub polygon_area_line : List Member → List ℕ
polygon_area_line polygon = area_line (area2 polygon)

-- an area a row, or the line of the first fault; and the status
abbrev pub answer_from : Result (List (List Member)) TableFault → List ℕ × ℕ
answer_from (Ok polygons) = (flat_map polygon_area_line polygons, done)
answer_from (Err fault) = (refusal_text fault, unreadable)

abbrev pub area_answer : List ℕ → List ℕ × ℕ
area_answer bytes = answer_from (rows_of area_table bytes)

-- a run that measures the polygons of a table: this is the answer to the bytes that its reader
-- reported, as far as they are known
abbrev pub Measures : Known → Answer → Type 0
Measures told a = OfRead IsRead told (λ bytes. a ≡ area_answer bytes)
