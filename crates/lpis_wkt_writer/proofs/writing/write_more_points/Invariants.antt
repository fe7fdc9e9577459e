use Rattle.std.proofs.Common.{◌≡◌, ◌++◌, string_bytes, take}
use Rattle.lpis_wkt_writer.specs.Text.{polygon_point_text, after_commas}
use Rattle.lpis_wkt_writer.proofs.writing.write_more_points.Given as goal

abbrev pub invariant-loop-point : goal.invariant-loop-point
invariant-loop-point l = string_bytes l.out ≡ string_bytes l.fn.out ++ after_commas polygon_point_text (take l.point-index l.points)
