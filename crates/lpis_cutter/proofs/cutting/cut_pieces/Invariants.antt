use Rattle.std.proofs.Common.{◌≤◌, take}
use Rattle.lpis_cutter.specs.private.Cutting.{AreFans, points_in_pieces}
use Rattle.lpis_cutter.proofs.cutting.cut_pieces.Given as goal

abbrev pub invariant-loop-index : goal.invariant-loop-index
invariant-loop-index l = record {
  triangles : AreFans (take l.index l.release.pieces) → l.parts.triangles ≤ points_in_pieces (take l.index l.release.pieces);
  flats : AreFans (take l.index l.release.pieces) → l.parts.flats ≤ points_in_pieces (take l.index l.release.pieces);
}
