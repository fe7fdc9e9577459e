use Rattle.lpis_tables.specs.declared.fault.Table.TheVariants.{Area}
use Rattle.lpis_tables.proofs.Shared.{table-start}
use Rattle.lpis_places.proofs.reading.rows_of_points.Goals as goal

pub points_under_header-requires : goal.points_under_header-requires
points_under_header-requires c = record { header = (table-start Area _ _ c.args.bytes.now c.in_ok-reader.reader c.in_ok-reader.ensures).1 }
