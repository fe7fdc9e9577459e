use Rattle.std.proofs.Common.{◌≡◌, List, drop, length, map}
use Rattle.std.specs.String.{string_bytes}
use Rattle.lpis_lineage.specs.declared.row.Row.{Row}
use Rattle.lpis_run_publish_country.specs.CountryLineage.{row_place}
use Rattle.lpis_run_publish_country.proofs.refusals.place_in.Given as goal

-- the row is one of the tables from here on
abbrev pub invariant-loop-index : goal.invariant-loop-index
invariant-loop-index l =
    (tables : List (List Row)) → l.fn.counts ≡ map (λ (rows : List Row). length rows) tables
    → row_place (map string_bytes l.fn.names) tables l.fn.row ≡ row_place (drop l.index (map string_bytes l.fn.names)) (drop l.index tables) l.left
