use Rattle.std.proofs.Common.{◌≡◌, take}
use Rattle.lpis_edge_sums.specs.Making.{polygons}
use Rattle.lpis_run_publish.proofs.blocks.polygons_at.Given as goal

abbrev pub invariant-loop-part : goal.invariant-loop-part
invariant-loop-part l = polygons l.polygons.items ≡ take l.part-index l.parts
