use Rattle.std.proofs.Common.{◌<◌, ℕ}
use Rattle.lpis_checker.specs.GoodCertificate.{EdgeSeparates}
use Rattle.lpis_cutter.proofs.separator.edge_between.Given as goal

abbrev pub invariant-loop-k : goal.invariant-loop-k
invariant-loop-k l = (m : ℕ) → m < l.k → EdgeSeparates m l.own l.other → ⊥
