use Rattle.std.proofs.Common.{◌≡◌, ◌++◌, take}
use Rattle.lpis_pairs.specs.NearPairs.{seen}
use Rattle.lpis_checker.proofs.first_fault.add_references.Given as goal

abbrev pub invariant-loop-triangle : goal.invariant-loop-triangle
invariant-loop-triangle l = seen l.references.items ≡ seen l.fn.references.items ++ take l.triangle-index l.triangles
