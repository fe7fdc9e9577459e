-- The identifiers of which a row is marked.
use Rattle.std.specs.Prelude.{◌&&◌, Bool, ℕ, List}
use Rattle.std.specs.List.{list_any}
use Rattle.lpis_lineage.specs.declared.row.Row.{Row}
use Rattle.lpis_lineage.specs.Lineage.{is_row_of}

abbrev pub is_marked : List Row → List ℕ → Bool
is_marked rows id = list_any (λ row. is_row_of id row && row.exact) rows
