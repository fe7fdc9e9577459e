use Rattle.std.proofs.Common.{◌-◌, drop, arith, take_all, length-drop}
use Rattle.std.proofs.lemmas.Str.{IsUtf8-from_ascii}
use Rattle.lpis_wkt_writer.specs.Text.{polygon_point_text}
use Rattle.lpis_wkt_writer.proofs.NumberLemmas.{point-ascii}
use Rattle.lpis_wkt_writer.proofs.writing.write_point.Goals as goal

pub unreachable-requires : goal.unreachable-requires
unreachable-requires c =
    let w = c.put_point-start in
    ((rw c.in-Err.is at c.from_utf8.ensures.cases).0)
    (rw (take_all (51 - w.result) (drop w.result w.new.text) (omega (arith, length-drop w.result w.new.text)), w.ensures.written)
    (IsUtf8-from_ascii (polygon_point_text c.args.point) (point-ascii c.args.point)))
