use Rattle.std.proofs.Common.{◌≡◌, ◌++◌, take}
use Rattle.lpis_cert.specs.private.Written.{corners_text}
use Rattle.lpis_cert.proofs.writing.append_all_corners.Given as goal

abbrev pub invariant-loop-t : goal.invariant-loop-t
invariant-loop-t l = l.out.items ≡ l.fn.out.items ++ corners_text l.flat (take l.t-index l.triangles)
