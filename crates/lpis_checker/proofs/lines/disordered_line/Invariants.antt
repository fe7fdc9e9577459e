use Rattle.std.proofs.Common.{ℕ, ◌<◌}
use Rattle.lpis_checker.specs.GoodCertificate.{IsInOrder, OfLine}
use Rattle.lpis_checker.proofs.lines.disordered_line.Given as goal

abbrev pub invariant-loop-index : goal.invariant-loop-index
invariant-loop-index l = (m : ℕ) → m < l.index → OfLine l.cert m (IsInOrder l.cert m)
