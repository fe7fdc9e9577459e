use Rattle.std.proofs.Common.{◌≡◌, List, ℕ, length, flat_map}
use Rattle.lpis_rings.specs.declared.polygon.Member.{Member}
use Rattle.lpis_tables.proofs.Shared.{IsRead}
use Rattle.lpis_run_check.specs.AreaAnswer.{area_table, polygon_area_line}
use Rattle.lpis_run_check.proofs.area.add_lines.Given as goal

-- the lines of the rows so far were written
abbrev pub invariant-rows : goal.invariant-rows
invariant-rows l =
    (keys : List (List ℕ)) × (polygons : List (List Member)) × IsRead area_table l.initial.reader keys polygons l.reader × (l.lines.items ≡ flat_map polygon_area_line polygons)

abbrev pub decreases-rows : goal.decreases-rows
decreases-rows l = length l.reader.rows
