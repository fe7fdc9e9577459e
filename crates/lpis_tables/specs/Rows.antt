-- What reading a whole table answers.
use Rattle.std.specs.Prelude.{◌≡◌, map, Result, Ok}
use Rattle.csv.specs.Records.{fields_of}
use Rattle.lpis_tables.specs.declared.fault.TableFault.{TableFault}
use Rattle.lpis_tables.specs.declared.rows.Rows.{Rows}
use Rattle.lpis_tables.specs.Table.{AnswersBy, Reading, flat}

-- which columns the header has, the rows that come, and what stops them
pub record AreRowsOf (t : Reading) (table : Rows) : Type 0 where
  pub has_is : table.has ≡ t.has
  pub rows_are : map fields_of table.rows ≡ map flat t.rows
  pub stop_is : table.stop ≡ t.stop

-- the rows that the definition says, or its refusal, or that memory ran out
abbrev pub RowsAnswer : Result Rows TableFault → Result Reading TableFault → Type 0
RowsAnswer result said =
    AnswersBy
    (λ (rows : Rows) (s : Result Reading TableFault). (t : Reading) × (s ≡ Ok t) × AreRowsOf t rows)
    result said
