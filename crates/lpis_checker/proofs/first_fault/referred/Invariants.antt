use Rattle.std.proofs.Common.{◌≡◌, take}
use Rattle.lpis_pairs.specs.NearPairs.{seen}
use Rattle.lpis_checker.proofs.Common.{triangles_of}
use Rattle.lpis_checker.proofs.first_fault.referred.Given as goal

abbrev pub invariant-loop-part : goal.invariant-loop-part
invariant-loop-part l = seen l.references.items ≡ triangles_of (take l.part-index l.part-items)
