use Rattle.std.proofs.Common.{◌≡◌, take}
use Rattle.lpis_checker.specs.GoodCertificate.{triangles_of}
use Rattle.lpis_cutter.proofs.crowding.triangles_in.Given as goal

abbrev pub invariant-loop-part : goal.invariant-loop-part
invariant-loop-part l = l.triangles.items ≡ triangles_of (take l.part-index l.part-items)
