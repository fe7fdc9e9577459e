use Rattle.std.proofs.Common.{◌≡◌, ◌++◌}
use Rattle.lpis_edge_sums.specs.Making.{polygons}
use Rattle.lpis_checker.specs.GoodCertificate.{polygons_of}
use Rattle.lpis_cutter.proofs.uneven.polygons_in.Given as goal

abbrev pub invariant-loop-piece : goal.invariant-loop-piece
invariant-loop-piece l = polygons l.polygons.items ++ polygons_of l.piece-iterator ≡ polygons_of l.fn.pieces
