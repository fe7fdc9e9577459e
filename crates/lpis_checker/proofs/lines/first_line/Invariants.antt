use Rattle.std.proofs.Common.{ℕ, ◌<◌}
use Rattle.lpis_checker.proofs.Common.{PairLine}
use Rattle.lpis_checker.specs.GoodCertificate.{OfLine, OfTriangles, OnLine}
use Rattle.lpis_checker.proofs.lines.first_line.Given as goal

abbrev pub invariant-loop-index : goal.invariant-loop-index
invariant-loop-index l = (m : ℕ) → m < l.index → OfLine l.cert m (λ (q : PairLine). OfTriangles l.triangles q (OnLine l.condition q))
