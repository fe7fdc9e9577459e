use Rattle.std.proofs.Common.{◌≡◌, take}
use Rattle.lpis_pairs.specs.NearPairs.{seen}
use Rattle.lpis_pairs.proofs.source.copied.Given as goal

abbrev pub invariant-loop-triangle : goal.invariant-loop-triangle
invariant-loop-triangle l = l.copies.items ≡ seen (take l.triangle-index l.triangles)
