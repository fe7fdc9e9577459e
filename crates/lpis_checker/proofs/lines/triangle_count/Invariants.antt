use Rattle.std.proofs.Common.{◌≡◌, length, sum_by, take}
use Rattle.lpis_checker.proofs.Common.{PiecePart}
use Rattle.lpis_checker.proofs.lines.triangle_count.Given as goal

abbrev pub invariant-loop-part : goal.invariant-loop-part
invariant-loop-part l = l.count ≡ sum_by (λ (p : PiecePart). length p.triangles) (take l.part-index l.part-items)
