-- How far a table is read when only its header is.
use Rattle.std.specs.Prelude.{◌≡◌, true}
use Rattle.lpis_tables.specs.Faults.{RowsOf}
use Rattle.lpis_tables.specs.Table.{Reading}

-- of a table the header alone has been read, and its columns are enough
pub record IsHeaderRead {A : Type 0} (kind : RowsOf A) (reader : Reading) : Type 0 where
  pub table : reader.table ≡ kind.table
  pub start : reader.number ≡ 0
  pub enough : kind.enough reader.has ≡ true
