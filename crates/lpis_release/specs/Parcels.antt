-- The table of reference parcels: an identifier and a polygon.
use Rattle.std.specs.Prelude.{◌∷◌, ◌++◌, true, ℕ, List, [], codes}
use Rattle.lpis_tables.specs.declared.fault.Table.TheVariants as table
use Rattle.lpis_tables.specs.declared.fault.TableFault.{TableFault}
use Rattle.lpis_tables.specs.Faults.{RowsOf, key_faults, polygon_faults, polygon_in}
use Rattle.lpis_tables.specs.Table.{Fields, field_of}
use Rattle.lpis_release.specs.declared.parcel.Parcel.{Parcel}

abbrev pub parcel_row_faults : List (List ℕ) → ℕ → Fields → List TableFault
parcel_row_faults keys n row = key_faults table.Parcels n keys (field_of row 0)
    ++ polygon_faults table.Parcels n (field_of row 1)

abbrev pub parcel_in_row : Fields → Parcel
parcel_in_row row = record { id = field_of row 0; polygon = polygon_in (field_of row 1) }

-- a row is a parcel: its identifier and its land
abbrev pub parcels_table : RowsOf Parcel
parcels_table = record {
  table = table.Parcels;
  columns = codes "parcel" ∷ codes "wkt" ∷ [];
  further = [];
  enough = λ has. true;
  faults = parcel_row_faults;
  value = parcel_in_row;
}
